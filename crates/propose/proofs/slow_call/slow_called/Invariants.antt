use mathlib.Core.Path.{◌≡◌}
use mathlib.Core.Bool.{false}
use Rattle.seats.proofs.OfficeLoops.{Seen}
use Rattle.row.specs.Row.{state_of, presence}
use Rattle.propose.proofs.Calls.{calls_in}
use Rattle.propose.proofs.slow_call.slow_called.Given as goal

abbrev pub invariant-loop-o : goal.invariant-loop-o
invariant-loop-o l =
    Seen (λ o. calls_in (state_of l.row.words.now) o ≡ false) (presence (state_of l.row.words.now)) l.left

abbrev pub decreases-loop-o : goal.decreases-loop-o
decreases-loop-o l =
    l.left
