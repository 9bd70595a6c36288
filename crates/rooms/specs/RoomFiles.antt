-- Sixteen servers with their files of high marks. A file is shared by the rooms: before a record of any room with a
-- number above the last mark leaves, a mark goes into it, and a server that was cut off begins again in every room at
-- its last whole mark. Such a list of events is one of RoomWorld.antt.
use Rattle.std.specs.Prelude.{List, [], ◌∷◌, ℕ, length, take}
use Rattle.laws.specs.Upd.{upd}
use Rattle.records.specs.declared.Report.{Report}
use Rattle.rules.specs.MarkFile.{last_high}
use Rattle.rules.specs.Leaving.{Action, actions_of, file_after, left_in}
use Rattle.rules.specs.Tables.{Table}
use Rattle.runs.specs.World.{Item}
use Rattle.rooms.specs.Roomed.{Roomed}
use Rattle.rooms.specs.RoomWorld.{RoomWorld, rooms_first, RoomUnderway, report_begun, delivery_begun, RoomsEvent}
use Rattle.rooms.specs.RoomWorld.{room_report, room_delivery, room_loss, room_cut, begun_writes_in, next_in}

pub record RoomFiled : Type 0 where
  pub world : RoomWorld
  pub file : ℕ → List ℕ

-- as the events of RoomWorld.antt; a server is cut off after so many actions, bytes of the file and records that left
pub data RoomFileEvent : Type 0 where
  reports_in : (office room : ℕ) (r : Report) (output : ℕ) → RoomFileEvent
  delivers_in : (from to output : ℕ) → RoomFileEvent
  loses_in : (from to place : ℕ) → RoomFileEvent
  cuts_in : (office : ℕ) (begun : RoomUnderway) (done : ℕ) → RoomFileEvent

-- the office at which an event is, what it does to its file and what leaves it
abbrev pub office_in : RoomFileEvent → ℕ
office_in (reports_in o room r output) = o
office_in (delivers_in i j output) = j
office_in (loses_in i j place) = i
office_in (cuts_in o b n) = o

unfoldable pub done_in : RoomFiled → RoomFileEvent → List Action
done_in f (reports_in o room r output) =
    actions_of (f.file o) (begun_writes_in f.world o (report_begun room r output))
done_in f (delivers_in i j output) = actions_of (f.file j) (begun_writes_in f.world j (delivery_begun i output))
done_in f (loses_in i j place) = []
done_in f (cuts_in o b n) = take n (actions_of (f.file o) (begun_writes_in f.world o b))

abbrev pub file_next_in : RoomFiled → RoomFileEvent → List ℕ
file_next_in f e = file_after (f.file (office_in e)) (done_in f e)

-- the event of RoomWorld.antt that it is
abbrev pub plain_in : RoomFiled → RoomFileEvent → RoomsEvent
plain_in f (reports_in o room r output) = room_report o room r output
plain_in f (delivers_in i j output) = room_delivery i j output
plain_in f (loses_in i j place) = room_loss i j place
plain_in f (cuts_in o b n) =
    room_cut o b (length (left_in (done_in f (cuts_in o b n)))) (last_high (file_next_in f (cuts_in o b n)))

unfoldable pub next_filed_in : RoomFiled → RoomFileEvent → RoomFiled
next_filed_in f e =
    record { world = next_in f.world (plain_in f e); file = upd f.file (office_in e) (file_next_in f e) }

unfoldable pub plainly_in : RoomFiled → List RoomFileEvent → List RoomsEvent
plainly_in f [] = []
plainly_in f (e ∷ es) = plain_in f e ∷ plainly_in (next_filed_in f e) es

abbrev pub filed_rooms : (ℕ → Table) → (ℕ → ℕ → List (Roomed Item)) → (ℕ → List ℕ) → RoomFiled
filed_rooms tables links files = record { world = rooms_first tables links; file = files }
