-- What an event of the world is to one of its offices: a turn of that office's own run.
use Rattle.std.specs.Prelude.{◌≡◌, List, ◌∷◌, ℕ}
use Rattle.records.specs.declared.Report.{Report}
use Rattle.rules.specs.Refusals.{Event, a_report, a_proposal}
use Rattle.runs.specs.Office.{Input, Turn, entire, broken}
use Rattle.runs.specs.World.{Item, World, begun_report, begun_delivery, WorldEvent, report, delivery, cut}

-- an office of the world reads for itself
abbrev pub hands_to : ℕ → Event → ℕ → Input
hands_to o e room = record { office = o; event = e; room = room }

-- At this event of the world w office o takes the turn t: it is handed a report, or the oldest proposal on a link, and
-- answers to the end; or it is cut off when the first `left` records of its answer have left.
pub data TurnAt (w : World) : WorldEvent → ℕ → Turn → Type 0 where
  on_report : (o : ℕ) (r : Report) (room : ℕ) → TurnAt w (report o r room) o (entire (hands_to o (a_report r) room))
  on_delivery : (i o room : ℕ) (x : Item) (l : List Item) → w.link i o ≡ x ∷ l
      → TurnAt w (delivery i o room) o (entire (hands_to o (a_proposal x.proposal) room))
  on_cut_report : (o : ℕ) (r : Report) (room left m : ℕ)
      → TurnAt w (cut o (begun_report r room) left m) o (broken (hands_to o (a_report r) room) left m)
  on_cut_delivery : (i o room left m : ℕ) (x : Item) (l : List Item) → w.link i o ≡ x ∷ l
      → TurnAt w (cut o (begun_delivery i room) left m) o (broken (hands_to o (a_proposal x.proposal) room) left m)
