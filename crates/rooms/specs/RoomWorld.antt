-- Sixteen servers, each with a table of eight rooms. A link is one row of proposals of all rooms, oldest first; an
-- event acts in one room, a cut in all.
use Rattle.std.specs.Prelude.{◌≡◌, List, [], ◌∷◌, ◌++◌, ℕ, zero, suc, ◌+◌, ◌<◌, take}
use Rattle.laws.specs.Lists.{runs}
use Rattle.laws.specs.Upd.{upd}
use Rattle.records.specs.Fits.{FitsReport}
use Rattle.records.specs.declared.Report.{Report}
use Rattle.rules.specs.Rules.{Written}
use Rattle.rules.specs.Refusals.{a_report, a_proposal}
use Rattle.rules.specs.Tables.{Table, restarted_table, TableResult, take_table}
use Rattle.runs.specs.World.{Item, SentRecord, mail}
use Rattle.rooms.specs.Roomed.{Roomed, roomed}

pub record RoomWorld : Type 0 where
  pub table : ℕ → Table
  pub link : ℕ → ℕ → List (Roomed Item)
  pub clock : ℕ
  pub log : ℕ → List (Roomed SentRecord)

-- the world before the first event
abbrev pub rooms_first : (ℕ → Table) → (ℕ → ℕ → List (Roomed Item)) → RoomWorld
rooms_first tables links = record { table = tables; link = links; clock = 0; log = λ i. [] }

-- What a server has begun when it loses its current: nothing, a report of a room, or the oldest proposal on the link
-- from an office.
pub data RoomUnderway : Type 0 where
  none_begun : RoomUnderway
  report_begun : (room : ℕ) (r : Report) (output : ℕ) → RoomUnderway
  delivery_begun : (from output : ℕ) → RoomUnderway

-- as the events of runs, a report with its room; `output` is the length of the lent output
pub data RoomsEvent : Type 0 where
  room_report : (office room : ℕ) (r : Report) (output : ℕ) → RoomsEvent
  room_delivery : (from to output : ℕ) → RoomsEvent
  room_loss : (from to place : ℕ) → RoomsEvent
  room_cut : (office : ℕ) (begun : RoomUnderway) (left m : ℕ) → RoomsEvent

-- the office at which an event is
abbrev pub acts_at : RoomsEvent → ℕ
acts_at (room_report o room r output) = o
acts_at (room_delivery i j output) = j
acts_at (room_loss i j place) = i
acts_at (room_cut o b left m) = o

abbrev pub BegunAmongServers : ℕ → RoomUnderway → Type 0
BegunAmongServers o none_begun = Unit {0}
BegunAmongServers o (report_begun room r output) = FitsReport r
BegunAmongServers o (delivery_begun i output) = (i < 16) × (i ≡ o → ⊥)

-- the event is one of sixteen offices and the links between them, with sets of 64 bits
abbrev pub AmongServers : RoomsEvent → Type 0
AmongServers (room_report o room r output) = (o < 16) × FitsReport r
AmongServers (room_delivery i j output) = (i < 16) × (j < 16) × (i ≡ j → ⊥)
AmongServers (room_loss i j place) = (i < 16) × (j < 16) × (i ≡ j → ⊥)
AmongServers (room_cut o b left m) = (o < 16) × BegunAmongServers o b

-- what an answer in a room adds to the log
abbrev pub logged_in : ℕ → ℕ → List Written → List (Roomed SentRecord) → List (Roomed SentRecord)
logged_in t room [] l = l
logged_in t room (w ∷ ws) l =
    logged_in t room ws (record { room = room; what = record { what = w; clock = t } } ∷ l)

-- office o gave the answer q in a room
unfoldable pub answered_in : RoomWorld → ℕ → ℕ → TableResult → RoomWorld
answered_in w o room q =
    record {
      table = upd w.table o q.table;
      link = upd w.link o (λ j. w.link o j ++ roomed room (mail w.clock j q.written));
      clock = w.clock + 1;
      log = upd w.log o (logged_in w.clock room q.written (w.log o));
    }

-- the world with the link from i to j changed to l
unfoldable pub with_link_in : RoomWorld → ℕ → ℕ → List (Roomed Item) → RoomWorld
with_link_in w i j l =
    record { table = w.table; link = upd w.link i (upd (w.link i) j l); clock = w.clock; log = w.log }

unfoldable pub idle_in : RoomWorld → RoomWorld
idle_in w = record { table = w.table; link = w.link; clock = w.clock + 1; log = w.log }

-- the row without the item at a place; where there is none, the row
abbrev pub without_in : ℕ → List (Roomed Item) → List (Roomed Item)
without_in n [] = []
without_in zero (x ∷ l) = l
without_in (suc n) (x ∷ l) = x ∷ without_in n l

-- what office o answers to a report of a room, and to a proposal of its room: it reads for itself
unfoldable pub report_answer_in : RoomWorld → ℕ → ℕ → Report → ℕ → TableResult
report_answer_in w o room r output = take_table o (w.table o) (record { room = room; what = a_report r }) output

unfoldable pub proposal_answer_in : RoomWorld → ℕ → Roomed Item → ℕ → TableResult
proposal_answer_in w o x output =
    take_table o (w.table o) (record { room = x.room; what = a_proposal x.what.proposal }) output

abbrev pub delivered_in : RoomWorld → ℕ → ℕ → ℕ → List (Roomed Item) → RoomWorld
delivered_in w i j output [] = idle_in w
delivered_in w i j output (x ∷ l) = answered_in (with_link_in w i j l) j x.room (proposal_answer_in w j x output)

-- the room of the oldest proposal of a row, and what office o writes to it
abbrev pub front_room : List (Roomed Item) → ℕ
front_room [] = 0
front_room (x ∷ l) = x.room

abbrev pub front_writes_in : RoomWorld → ℕ → ℕ → List (Roomed Item) → List Written
front_writes_in w o output [] = []
front_writes_in w o output (x ∷ l) = (proposal_answer_in w o x output).written

-- the room of what office o has begun, and what it has begun to write
unfoldable pub begun_room : RoomWorld → ℕ → RoomUnderway → ℕ
begun_room w o none_begun = 0
begun_room w o (report_begun room r output) = room
begun_room w o (delivery_begun i output) = front_room (w.link i o)

unfoldable pub begun_writes_in : RoomWorld → ℕ → RoomUnderway → List Written
begun_writes_in w o none_begun = []
begun_writes_in w o (report_begun room r output) = (report_answer_in w o room r output).written
begun_writes_in w o (delivery_begun i output) = front_writes_in w o output (w.link i o)

-- a delivery that was begun has taken its proposal off the link
unfoldable pub taken_up_in : RoomWorld → ℕ → RoomUnderway → RoomWorld
taken_up_in w o none_begun = w
taken_up_in w o (report_begun room r output) = w
taken_up_in w o (delivery_begun i output) = with_link_in w i o (without_in 0 (w.link i o))

-- what had left has joined the links, which stay; all else that the office knew in any room is gone
unfoldable pub cut_answer_in : RoomWorld → ℕ → RoomUnderway → ℕ → ℕ → TableResult
cut_answer_in w o b left m =
    record { refusal = 0; written = take left (begun_writes_in w o b); table = restarted_table o m }

unfoldable pub next_in : RoomWorld → RoomsEvent → RoomWorld
next_in w (room_report o room r output) = answered_in w o room (report_answer_in w o room r output)
next_in w (room_delivery i j output) = delivered_in w i j output (w.link i j)
next_in w (room_loss i j place) = idle_in (with_link_in w i j (without_in place (w.link i j)))
next_in w (room_cut o b left m) = answered_in (taken_up_in w o b) o (begun_room w o b) (cut_answer_in w o b left m)

-- the world before event n of the list
abbrev pub rooms_at : RoomWorld → List RoomsEvent → ℕ → RoomWorld
rooms_at w es n = runs next_in w (take n es)
