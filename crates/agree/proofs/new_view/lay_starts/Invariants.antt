use mathlib.Core.Path.{◌≡◌}
use Rattle.row.specs.Row.{state_of}
use Rattle.agree.specs.Starts.{laid_of}
use Rattle.agree.proofs.new_view.lay_starts.Given as goal

abbrev pub invariant-loop-o : goal.invariant-loop-o
invariant-loop-o l =
    l.laid ≡ laid_of l.o (state_of l.row.words.now)
