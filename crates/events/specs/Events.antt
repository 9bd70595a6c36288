-- An event in code, and the reading call on it.
use Rattle.std.specs.Prelude.{List, ℕ}
use Rattle.rules.specs.Refusals.{Event as RuleEvent, a_report, a_proposal}
use Rattle.rules.specs.Tables.{RoomEvent, read_of}
use Rattle.events.specs.declared.What.{What}
use Rattle.events.specs.declared.What.TheVariants.{Report as IsReport, Proposal as IsProposal}
use Rattle.events.specs.declared.Event.{Event}

-- the event of the rules
abbrev pub part_of : What → RuleEvent
part_of (IsReport r) = a_report r
part_of (IsProposal p) = a_proposal p

abbrev pub event_held : Event → RoomEvent
event_held e = record { room = e.room; what = part_of e.what }

-- an event as it is read
abbrev pub holding : ℕ → RuleEvent → Event
holding room (a_report r) = record { room = room; what = IsReport r }
holding room (a_proposal p) = record { room = room; what = IsProposal p }

-- what the reading call gives: the refusal or 0, and the event
pub record EventRead : Type 0 where
  pub refusal : ℕ
  pub event : Event

unfoldable pub read_event : ℕ → List ℕ → EventRead
read_event office b =
    let r = read_of office b in
    record { refusal = r.refusal; event = holding r.event.room r.event.what }
