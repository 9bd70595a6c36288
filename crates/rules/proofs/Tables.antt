-- Tables, computed: making and making again; the numbers of reading, of acting and of both in turn; an event changes
-- its room alone.
use mathlib.Core.Path.{◌≡◌, refl}
use mathlib.Core.List.{List, [], ◌∷◌, ◌++◌}
use Prim.Native.Nat.{ℕ, ◌+◌, ◌-◌}
use lib.Dec.{eqb}
use Rattle.laws.specs.Lists.{pieces}
use Rattle.laws.specs.Tab.{tab}
use Rattle.laws.specs.Upd.{upd, ifb}
use Rattle.laws.proofs.Lists.{◌then◌}
use Rattle.records.specs.Layout.{encode_high, decode_high}
use Rattle.records.specs.Numbers.{limit}
use Rattle.rules.specs.MarkFile.{may_follow, is_high, all_high, last_in, last_high, good_file, high_bytes}
use Rattle.rules.specs.State.{State}
use Rattle.rules.specs.Rules.{fresh, restarted}
use Rattle.rules.specs.Refusals.{made_of, restart_checks, restart_of, full_room, Event, a_report, a_proposal}
use Rattle.rules.specs.Tables.{Table, fresh_table, restarted_table, well_table, MadeTable, made_table, restart_table}
use Rattle.rules.specs.Tables.{barred, act_table, read_of, step_table}
use Rattle.rules.specs.Turns.{event_bytes}
use Rattle.rules.specs.Days.{given, day_a, day_b, day_c}

-- of a room: own office, net view, proposal, start and view number; of a table: its rooms 0, 6 and 7
abbrev numbers_of : State → List ℕ
numbers_of s = s.own ∷ s.net.bits ∷ s.number ∷ s.start ∷ s.view.number ∷ []

abbrev rooms : Table → List (List ℕ)
rooms t = numbers_of (t 0) ∷ numbers_of (t 6) ∷ numbers_of (t 7) ∷ []

abbrev made_rooms : MadeTable → List (List ℕ)
made_rooms m = (m.refusal ∷ []) ∷ rooms m.table

-- office 3, and one above 15
pub tables_made :
    made_rooms (made_table 3) ∷ made_rooms (made_table 16) ∷ []
    ≡ ((0 ∷ []) ∷ (3 ∷ 0 ∷ 0 ∷ 0 ∷ 0 ∷ []) ∷ (3 ∷ 0 ∷ 0 ∷ 0 ∷ 0 ∷ []) ∷ (3 ∷ 0 ∷ 0 ∷ 0 ∷ 0 ∷ []) ∷ [])
    ∷ ((1 ∷ []) ∷ (0 ∷ 0 ∷ 0 ∷ 0 ∷ 0 ∷ []) ∷ (0 ∷ 0 ∷ 0 ∷ 0 ∷ 0 ∷ []) ∷ (0 ∷ 0 ∷ 0 ∷ 0 ∷ 0 ∷ []) ∷ []) ∷ []
unfolding given made_table made_of
tables_made = refl then refl then refl

-- a mark of 7: every room begins there; a file that is no mark
pub tables_restarted :
    rooms (restarted_table 3 7) ∷ made_rooms (restart_table 3 (high_bytes 7))
    ∷ made_rooms (restart_table 3 (high_bytes 0))
    ∷ []
    ≡ ((3 ∷ 0 ∷ 7 ∷ 7 ∷ 7 ∷ []) ∷ (3 ∷ 0 ∷ 7 ∷ 7 ∷ 7 ∷ []) ∷ (3 ∷ 0 ∷ 7 ∷ 7 ∷ 7 ∷ []) ∷ [])
    ∷ ((0 ∷ []) ∷ (3 ∷ 0 ∷ 7 ∷ 7 ∷ 7 ∷ []) ∷ (3 ∷ 0 ∷ 7 ∷ 7 ∷ 7 ∷ []) ∷ (3 ∷ 0 ∷ 7 ∷ 7 ∷ 7 ∷ []) ∷ [])
    ∷ ((18 ∷ []) ∷ (0 ∷ 0 ∷ 0 ∷ 0 ∷ 0 ∷ []) ∷ (0 ∷ 0 ∷ 0 ∷ 0 ∷ 0 ∷ []) ∷ (0 ∷ 0 ∷ 0 ∷ 0 ∷ 0 ∷ []) ∷ []) ∷ []
unfolding given restart_table restart_of restart_checks good_file all_high is_high may_follow last_high last_in pieces
    high_bytes encode_high decode_high
tables_restarted = refl then refl then refl then refl

-- seat 0 joins; a proposal that names office 16 as its sender
abbrev joins : Event
joins = a_report (record { joining = record { bits = 1 }; leaving = record { bits = 0 } })

abbrev stray : Event
stray =
    a_proposal
    (record { sender = 16; kind = 1; members = record { bits = 1 }; start = 1; number = 1; used = [] })

abbrev answer : Table → ℕ → Event → ℕ → ℕ
answer t room e output = (act_table t (record { room = room; what = e }) output).refusal

-- a number above L in the last room
abbrev broken : Table
broken = upd (fresh_table 0) 7 (restarted 0 (limit + 1))

-- 2 by another room, before 3 and 20; 3 before 20; 20 from room 8 on, before 6; 6; accepted in rooms 0 and 7
pub table_refusals :
    answer broken 0 joins full_room ∷ answer broken 8 joins 0 ∷ answer (fresh_table 0) 8 joins (full_room - 1)
    ∷ answer (fresh_table 0) 8 joins full_room ∷ answer (fresh_table 0) 255 stray full_room
    ∷ answer (fresh_table 0) 7 stray full_room
    ∷ answer (fresh_table 0) 0 joins full_room ∷ answer (fresh_table 0) 7 joins full_room ∷ []
    ≡ 2 ∷ 2 ∷ 3 ∷ 20 ∷ 20 ∷ 6 ∷ 0 ∷ 0 ∷ []
unfolding given act_table barred well_table
table_refusals = refl then refl then refl then refl then refl then refl then refl then refl then refl

-- seat 0 joins in room 6: notice 1 and view 2
pub one_room :
    rooms (act_table (fresh_table 0) (record { room = 6; what = joins }) full_room).table
    ≡ (0 ∷ 0 ∷ 0 ∷ 0 ∷ 0 ∷ []) ∷ (0 ∷ 1 ∷ 1 ∷ 1 ∷ 2 ∷ []) ∷ (0 ∷ 0 ∷ 0 ∷ 0 ∷ 0 ∷ []) ∷ []
unfolding given act_table barred well_table
one_room = refl then refl then refl then refl

-- a proposal in a room, with its sender, its kind and its used number for the sender, and its bytes
abbrev from : ℕ → ℕ → ℕ → Event
from sender kind itself =
    a_proposal
    (record {
      sender = sender;
      kind = kind;
      members = record { bits = 0b10001 };
      start = 1;
      number = 1;
      used = tab 16 (λ o. ifb (eqb o sender) itself 0);
    })

abbrev bytes_from : ℕ → ℕ → ℕ → ℕ → List ℕ
bytes_from room sender kind itself = event_bytes room (from sender kind itself)

abbrev read : ℕ → List ℕ → ℕ
read office b = (read_of office b).refusal

-- 1 before 4; 4 and 5, which is before 20; 20 before 6; 6 for the office asked, and above 15; 9 for another office; 7;
-- 19; what passes gives its event
pub read_numbers :
    read 16 [] ∷ read 0 [] ∷ read 0 (bytes_from 8 1 1 0 ++ (0 ∷ [])) ∷ read 0 (bytes_from 8 16 1 0)
    ∷ read 1 (bytes_from 7 1 1 0) ∷ read 0 (bytes_from 7 16 1 0) ∷ read 2 (bytes_from 7 1 1 0)
    ∷ read 0 (bytes_from 7 1 3 0) ∷ read 0 (bytes_from 7 1 1 1) ∷ read 0 (bytes_from 7 1 1 0)
    ∷ (read_of 0 (bytes_from 7 1 1 0)).event.room ∷ (read_of 0 (bytes_from 7 1 1 1)).event.room ∷ []
    ≡ 1 ∷ 4 ∷ 5 ∷ 20 ∷ 6 ∷ 6 ∷ 9 ∷ 7 ∷ 19 ∷ 0 ∷ 7 ∷ 0 ∷ []
unfolding given read_of
read_numbers =
    refl then refl then refl then refl then refl then refl then refl then refl then refl then refl then refl then refl
    then refl

-- room 0 is of office 0, room 7 of office 1
abbrev mixed : Table
mixed = upd (fresh_table 0) 7 (fresh 1)

-- acting: 7 and 19; 6 and 9 for the own office of the event's room; after day C 11, and 19 before it
pub act_numbers :
    answer (fresh_table 0) 0 (from 1 3 0) full_room ∷ answer (fresh_table 0) 0 (from 1 1 1) full_room
    ∷ answer mixed 0 (from 1 1 0) full_room ∷ answer mixed 7 (from 1 1 0) full_room
    ∷ answer mixed 7 (from 0 1 0) full_room ∷ answer (fresh_table 5) 7 (from 1 1 0) full_room
    ∷ answer (λ room. day_c.state) 0 (from 1 1 0) full_room ∷ answer (λ room. day_c.state) 0 (from 1 1 1) full_room ∷ []
    ≡ 7 ∷ 19 ∷ 0 ∷ 6 ∷ 0 ∷ 9 ∷ 11 ∷ 19 ∷ []
unfolding given day_a day_b day_c act_table barred well_table
act_numbers = refl then refl then refl then refl then refl then refl then refl then refl then refl

abbrev turned : ℕ → Table → List ℕ → ℕ → ℕ
turned office t b output = (step_table office t b output).refusal

-- both in turn: 4 and 19 before 2 and 3; 2 before 3; 3; then 6 and 9 for a room of another office; accepted
pub turn_numbers :
    turned 0 broken [] 0 ∷ turned 0 broken (bytes_from 0 1 1 1) full_room
    ∷ turned 0 (fresh_table 0) (bytes_from 0 1 1 1) 0
    ∷ turned 0 broken (bytes_from 0 1 1 0) 0 ∷ turned 0 mixed (bytes_from 7 1 1 0) 0
    ∷ turned 0 mixed (bytes_from 7 1 1 0) full_room ∷ turned 0 (fresh_table 5) (bytes_from 7 1 1 0) full_room
    ∷ turned 0 mixed (bytes_from 0 1 1 0) full_room ∷ []
    ≡ 4 ∷ 19 ∷ 19 ∷ 2 ∷ 3 ∷ 6 ∷ 9 ∷ 0 ∷ []
unfolding given step_table read_of act_table barred well_table
turn_numbers = refl then refl then refl then refl then refl then refl then refl then refl then refl
