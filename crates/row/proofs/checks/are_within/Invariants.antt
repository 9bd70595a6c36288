use mathlib.Core.Path.{◌≡◌}
use Prim.Native.Nat.{◌+◌}
use lib.ListN.{get_or}
use Rattle.laws.specs.Fin.{allb}
use Rattle.records.specs.Numbers.{within}
use Rattle.row.proofs.checks.are_within.Given as goal

abbrev pub invariant-loop-number : goal.invariant-loop-number
invariant-loop-number l =
    l.ok ≡ allb l.number-index (λ j. within (get_or l.s (l.at + j) 0))
