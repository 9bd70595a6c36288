use mathlib.Core.Path.{◌≡◌}
use Rattle.laws.specs.Fin.{allb}
use Rattle.rules.specs.State.{stored_at}
use Rattle.rules.specs.Refusals.{slot_within}
use Rattle.row.specs.Row.{state_of}
use Rattle.row.proofs.lent.Row.slots_within.Given as goal

abbrev pub invariant-loop-o : goal.invariant-loop-o
invariant-loop-o l =
    l.ok ≡ allb l.o (λ i. slot_within (stored_at (state_of l.self.words.now) i))
