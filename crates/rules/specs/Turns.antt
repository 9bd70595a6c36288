-- What both calls in turn are held to: the step of request 9, events built by hand, the order of the numbers.
use Rattle.std.specs.Prelude.{not, List, [], ◌∷◌, ◌++◌, ℕ, eqb, ltb}
use Rattle.laws.specs.Checks.{Check, numbered, first_of}
use Rattle.laws.specs.Upd.{ifb}
use Rattle.records.specs.Fits.{FitsReport, FitsProposal}
use Rattle.records.specs.Layout.{check_of, room_of, encode_report, encode_proposal}
use Rattle.records.specs.Numbers.{room_above}
use Rattle.rules.specs.State.{State}
use Rattle.rules.specs.Refusals.{full_room, well_formed, read_check, Event, a_report, a_proposal, event_of}
use Rattle.rules.specs.Refusals.{wrong_sender, without_seat, form_checks, state_checks, rule_of, act_of}
use Rattle.rules.specs.Tables.{Table, well_table, RoomEvent, TableResult, refused_table, in_table}

-- the step of request 9, which read and acted in one: 2, 3, 4, 5 and 20, then 6 to 10, 19, 11 to 13 in its room
unfoldable pub undivided : Table → List ℕ → ℕ → TableResult
undivided t b output =
    let n = first_of (record { number = 2; applies = not (well_table t) }
    ∷ record { number = 3; applies = ltb output full_room } ∷ numbered (read_check b) ∷ []) in
    ifb (eqb n 0) (in_table t (room_of b) (act_of (t (room_of b)) (event_of b))) (refused_table n t)

-- the bytes of an event in a room, and an event that has them: its numbers are those of its fields
abbrev pub event_bytes : ℕ → Event → List ℕ
event_bytes room (a_report r) = encode_report room r
event_bytes room (a_proposal p) = encode_proposal room p

abbrev pub FitsEvent : Event → Type 0
FitsEvent (a_report r) = FitsReport r
FitsEvent (a_proposal p) = FitsProposal p

-- 6 to 10 and 19; of these 6 and 9, which alone look at the office; 11 and 12. A report meets none.
abbrev pub forms_of : ℕ → Event → List Check
forms_of office (a_report r) = []
forms_of office (a_proposal p) = form_checks office p

abbrev pub office_checks : ℕ → Event → List Check
office_checks office (a_report r) = []
office_checks office (a_proposal p) =
    record { number = 6; applies = wrong_sender office p } ∷ record { number = 9; applies = without_seat office p } ∷ []

abbrev pub states_of : State → Event → List Check
states_of s (a_report r) = []
states_of s (a_proposal p) = state_checks s p

-- the reading call: 1, 4, 5, 20, 6 to 10 and 19
unfoldable pub read_order : ℕ → List ℕ → List Check
read_order office b =
    record { number = 1; applies = ltb 15 office } ∷ numbered (check_of b)
    ∷ record { number = 20; applies = room_above (room_of b) } ∷ forms_of office (event_of b)

-- 13
abbrev pub ceiling_of : State → Event → List Check
ceiling_of s e = record { number = 13; applies = not (well_formed (rule_of s e).state) } ∷ []

-- the acting call: 2, 3, 20, 6 to 10, 19, 11, 12 and 13
unfoldable pub act_order : Table → RoomEvent → ℕ → List Check
act_order t e output =
    let s = t e.room in
    record { number = 2; applies = not (well_table t) } ∷ record { number = 3; applies = ltb output full_room }
    ∷ record { number = 20; applies = room_above e.room }
    ∷ (forms_of s.own e.what ++ (states_of s e.what ++ ceiling_of s e.what))

-- both in turn: 1, 4, 5, 20, 6 to 10 and 19; 2 and 3; 6 and 9 where the room's own office is another; 11 to 13
unfoldable pub turn_checks : ℕ → Table → List ℕ → ℕ → List Check
turn_checks office t b output =
    let s = t (room_of b) in
    let e = event_of b in
    read_order office b
    ++ (record { number = 2; applies = not (well_table t) } ∷ record { number = 3; applies = ltb output full_room }
    ∷ (office_checks s.own e ++ (states_of s e ++ ceiling_of s e)))
