use mathlib.Core.Path.{◌≡◌}
use lib.Dec.{ltb}
use lib.ListN.{get_or}
use Rattle.laws.specs.Fin.{anyb}
use Rattle.records.specs.Numbers.{limit}
use Rattle.records.proofs.numbers.above_limit.Given as goal

abbrev pub invariant-loop-n : goal.invariant-loop-n
invariant-loop-n l =
    l.above ≡ anyb l.n-index (λ k. ltb limit (get_or l.numbers k 0))
