use mathlib.Core.Path.{◌≡◌}
use Rattle.seats.proofs.OfficeLoops.{Seen}
use Rattle.records.proofs.NumberLaws.{others as othersOf}
use Rattle.records.proofs.numbers.stray_number.Given as goal

abbrev pub invariant-loop-o : goal.invariant-loop-o
invariant-loop-o l =
    Seen (λ o. Unit {0}) l.initial.left l.left × (l.others ≡ othersOf l.numbers l.initial.left l.left)

abbrev pub decreases-loop-o : goal.decreases-loop-o
decreases-loop-o l =
    l.left
