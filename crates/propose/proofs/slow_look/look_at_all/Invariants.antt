use mathlib.Core.Path.{◌≡◌}
use Rattle.row.specs.Row.{state_of}
use Rattle.propose.specs.Look.{look_of}
use Rattle.propose.proofs.slow_look.look_at_all.Given as goal

abbrev pub invariant-loop-o : goal.invariant-loop-o
invariant-loop-o l =
    l.a ≡ look_of l.o (state_of l.row.words.now)
