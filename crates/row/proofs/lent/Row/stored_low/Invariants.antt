use mathlib.Core.Path.{◌≡◌}
use mathlib.Core.Bool.{true}
use Rattle.row.specs.Row.{state_of, presence, low_at}
use Rattle.seats.proofs.OfficeLoops.{Seen}
use Rattle.row.proofs.lent.Row.stored_low.Given as goal

abbrev pub invariant-loop-o : goal.invariant-loop-o
invariant-loop-o l =
    Seen (λ o. low_at l.self.words.now o ≡ true) (presence (state_of l.self.words.now)) l.left

abbrev pub decreases-loop-o : goal.decreases-loop-o
decreases-loop-o l =
    l.left
