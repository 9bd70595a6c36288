-- What a seat makes of a start notice or a view: the reasons to refuse, in the order of change requests 3 and 9, and
-- what an accepted one leaves.
use Rattle.std.specs.Prelude.{true, false, List, ◌∷◌, ℕ, Result, Ok, Err, eqb, leb}
use Rattle.laws.specs.Checks.{Check, numbered, first_of}
use Rattle.laws.specs.Upd.{ifb}
use Rattle.seats.specs.Seats.{seat_count}
use Rattle.records.specs.Numbers.{room_above}
use Rattle.records.specs.Layout.{notice_mark, notice_length, view_mark, view_length, value_of, mark_of, check_either}
use Rattle.records.specs.Layout.{room_of, decode_notice, decode_view}
use Rattle.records.specs.declared.refusal.Refusal.{Refusal}
use Rattle.records.specs.Refusals.{number}
use Rattle.desk.specs.declared.checks.Desk.{Desk}
use Rattle.desk.specs.SeatChecks.{SeatRecord, a_notice, a_view, seat_checks}

-- the refusal or 0, and the state that it leaves
pub record Heard : Type 0 where
  pub refusal : ℕ
  pub desk : Desk

-- what an answer leaves of a state: the new one, or the old one with the refusal
abbrev pub heard_as : Desk → Result Desk Refusal → Heard
heard_as d (Ok e) = record { refusal = 0; desk = e }
heard_as d (Err r) = record { refusal = number r; desk = d }

-- a fresh seat
unfoldable pub fresh_desk : ℕ → Desk
fresh_desk seat = record { seat = seat; start = 0; view = 0; changing = false }

-- 6, when a seat above 63 is made: the fresh seat 0 comes back with the number
unfoldable pub made_desk : ℕ → Heard
made_desk seat =
    ifb (leb seat_count seat) (record { refusal = 6; desk = fresh_desk 0 })
    (record { refusal = 0; desk = fresh_desk seat })

unfoldable pub seat_record_of : List ℕ → SeatRecord
seat_record_of b = ifb (eqb (mark_of b) (value_of notice_mark)) (a_notice (decode_notice b)) (a_view (decode_view b))

-- 4 and 5, with the marks of a start notice and of a view
abbrev pub check_seat_record : List ℕ → ℕ
check_seat_record = check_either notice_mark notice_length view_mark view_length

-- a seat above 63 gets 6 before all else; then come 4 and 5, and 20 of the room
unfoldable pub hear_checks : Desk → List ℕ → List Check
hear_checks d b =
    record { number = 6; applies = leb seat_count d.seat }
    ∷ numbered (check_seat_record b) ∷ record { number = 20; applies = room_above (room_of b) }
    ∷ seat_checks d (seat_record_of b)

-- a notice sets the start number and opens a change; a view sets the view number and closes it
unfoldable pub after_record : Desk → SeatRecord → Desk
after_record d (a_notice n) = record { seat = d.seat; start = n.start; view = d.view; changing = true }
after_record d (a_view v) = record { seat = d.seat; start = d.start; view = v.number; changing = false }

-- a record that was read, in its room
abbrev pub told_checks : Desk → ℕ → SeatRecord → List Check
told_checks d room r = record { number = 20; applies = room_above room } ∷ seat_checks d r

-- what a record leaves of a state, by the refusal or 0
abbrev pub left_by : Desk → SeatRecord → ℕ → Heard
left_by d r n = ifb (eqb n 0) (record { refusal = 0; desk = after_record d r }) (record { refusal = n; desk = d })

-- any bytes on any state; a refusal leaves it as it was
unfoldable pub hear_of : Desk → List ℕ → Heard
hear_of d b =
    let n = first_of (hear_checks d b) in
    ifb (eqb n 0) (record { refusal = 0; desk = after_record d (seat_record_of b) }) (record { refusal = n; desk = d })
