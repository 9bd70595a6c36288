-- Eight rooms on one server (request 9): one table holds eight room states. An event is of a room; check 2 looks at
-- the whole table, and the event acts on its room's state alone. Reading and acting (request 10): one call reads a
-- record for an office and gives the event, the other acts on an event.
use Rattle.std.specs.Prelude.{Bool, not, List, [], ◌∷◌, ℕ, eqb, ltb}
use Rattle.laws.specs.Checks.{first_of}
use Rattle.laws.specs.Fin.{allb}
use Rattle.laws.specs.Upd.{ifb, upd}
use Rattle.records.specs.Numbers.{room_count, room_above}
use Rattle.records.specs.Layout.{room_of}
use Rattle.rules.specs.State.{State, no_report}
use Rattle.rules.specs.Rules.{Written, fresh, restarted}
use Rattle.rules.specs.Refusals.{well_formed, made_of, restart_of, full_room, read_check, read_number, Event, a_report}
use Rattle.rules.specs.Refusals.{event_of, Result, act_of}

-- the state of each room
abbrev pub Table : Type 0
Table = ℕ → State

abbrev pub fresh_table : ℕ → Table
fresh_table office room = fresh office

-- the mark file is shared by the rooms: a restart gives every room the same m
abbrev pub restarted_table : ℕ → ℕ → Table
restarted_table office m room = restarted office m

-- check 2 passes: in every room
unfoldable pub well_table : Table → Bool
well_table t = allb room_count (λ room. well_formed (t room))

-- 1, when a table is made: the fresh table of office 0 comes back with the number
pub record MadeTable : Type 0 where
  pub refusal : ℕ
  pub table : Table

unfoldable pub made_table : ℕ → MadeTable
made_table office = record { refusal = (made_of office).refusal; table = λ room. (made_of office).state }

-- 18, after 1, when a table is made again; it gives back what 1 gives
unfoldable pub restart_table : ℕ → List ℕ → MadeTable
restart_table office f =
    record { refusal = (restart_of office f).refusal; table = λ room. (restart_of office f).state }

-- an event: the room that its record names, and what was read
pub record RoomEvent : Type 0 where
  pub room : ℕ
  pub what : Event

-- what comes back: the refusal or 0, what was written, the table
pub record TableResult : Type 0 where
  pub refusal : ℕ
  pub written : List Written
  pub table : Table

abbrev pub refused_table : ℕ → Table → TableResult
refused_table n t = record { refusal = n; written = []; table = t }

-- what a room is shown of it
abbrev pub shown_in : ℕ → TableResult → Result
shown_in room q = record { refusal = q.refusal; written = q.written; state = q.table room }

-- a room's answer in the table
abbrev pub in_table : Table → ℕ → Result → TableResult
in_table t room q = record { refusal = q.refusal; written = q.written; table = upd t room q.state }

-- 2, 3 and 20
unfoldable pub barred : Table → RoomEvent → ℕ → ℕ
barred t e output =
    first_of (record { number = 2; applies = not (well_table t) }
    ∷ record { number = 3; applies = ltb output full_room } ∷ record { number = 20; applies = room_above e.room }
    ∷ [])

-- the acting call: an event on a table, with an output of this length: 2, 3, 20, then 6 to 10, 19, 11 to 13 in its
-- room
unfoldable pub act_table : Table → RoomEvent → ℕ → TableResult
act_table t e output =
    ifb (eqb (barred t e output) 0) (in_table t e.room (act_of (t e.room) e.what))
    (refused_table (barred t e output) t)

-- what the reading call gives: the refusal or 0, and the event; with a refusal an empty report of room 0
pub record ReadResult : Type 0 where
  pub refusal : ℕ
  pub event : RoomEvent

abbrev pub no_event : RoomEvent
no_event = record { room = 0; what = a_report no_report }

-- the event of a record
abbrev pub record_event : List ℕ → RoomEvent
record_event b = record { room = room_of b; what = event_of b }

-- the reading call: a record for an office: 1, 4, 5, 20, then 6 to 10 and 19
unfoldable pub read_of : ℕ → List ℕ → ReadResult
read_of office b =
    let n = read_number office (read_check b) (event_of b) in
    record { refusal = n; event = ifb (eqb n 0) (record_event b) no_event }

-- the step: both in turn
unfoldable pub step_table : ℕ → Table → List ℕ → ℕ → TableResult
step_table office t b output =
    let r = read_of office b in
    ifb (eqb r.refusal 0) (act_table t r.event output) (refused_table r.refusal t)

-- an event handed to an office, of which no bytes are looked at: 1, 20, 6 to 10 and 19 as in its reading, then it is
-- acted on
abbrev pub room_check : ℕ → ℕ
room_check room = ifb (room_above room) 20 0

unfoldable pub take_table : ℕ → Table → RoomEvent → ℕ → TableResult
take_table office t e output =
    let n = read_number office (room_check e.room) e.what in
    ifb (eqb n 0) (act_table t e output) (refused_table n t)
