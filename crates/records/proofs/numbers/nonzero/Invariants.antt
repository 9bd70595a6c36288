use mathlib.Core.Path.{◌≡◌}
use Rattle.laws.specs.Fin.{sum}
use Rattle.laws.specs.Upd.{ifb}
use Rattle.records.specs.Numbers.{non_zero}
use Rattle.records.proofs.numbers.nonzero.Given as goal

abbrev pub invariant-loop-n : goal.invariant-loop-n
invariant-loop-n l =
    l.all ≡ sum l.n-index (λ k. ifb (non_zero l.numbers k) 1 0)
