-- The records that a seat takes, and the reasons to refuse one once it is read, in the order of change request 3.
use Rattle.std.specs.Prelude.{Bool, false, ◌||◌, not, List, [], ◌∷◌, ℕ, eqb, ltb, leb}
use Rattle.laws.specs.Checks.{Check}
use Rattle.seats.specs.Seats.{contains_of}
use Rattle.records.specs.Numbers.{limit}
use Rattle.records.specs.declared.Notice.{Notice}
use Rattle.records.specs.declared.View.{View}
use Rattle.desk.specs.declared.checks.Desk.{Desk}
use Rattle.desk.specs.Views.{view_above, view_stray, start_for}

-- a start notice or a view
pub data SeatRecord : Type 0 where
  a_notice : Notice → SeatRecord
  a_view : View → SeatRecord

-- 8: a number in the record or in the seat's state is above L
abbrev pub record_above : SeatRecord → Bool
record_above (a_notice n) = ltb limit n.start
record_above (a_view v) = view_above v

abbrev pub seat_above : Desk → Bool
seat_above d = ltb limit d.start || ltb limit d.view

unfoldable pub too_high : Desk → SeatRecord → Bool
too_high d r = record_above r || seat_above d

-- 9: the members lack the own seat
abbrev pub members_in : SeatRecord → ℕ
members_in (a_notice n) = n.members.bits
members_in (a_view v) = v.members.bits

unfoldable pub lacks_seat : ℕ → ℕ → Bool
lacks_seat members seat = not (contains_of members seat)

-- 10: a view's start number is not 0 for an office outside the members
abbrev pub stray_start : SeatRecord → Bool
stray_start (a_notice n) = false
stray_start (a_view v) = view_stray v

-- 14: a notice's start number is not above the last one or is below the last view number
abbrev pub stale_notice : Desk → SeatRecord → Bool
stale_notice d (a_notice n) = leb n.start d.start || ltb n.start d.view
stale_notice d (a_view v) = false

-- 15: a view finds no change open or carries another start number for the seat's office
abbrev pub unawaited_view : Desk → SeatRecord → Bool
unawaited_view d (a_notice n) = false
unawaited_view d (a_view v) = not d.changing || not (eqb (start_for v d.seat) d.start)

-- 16: a view's number is not above the last start number
abbrev pub stale_view : Desk → SeatRecord → Bool
stale_view d (a_notice n) = false
stale_view d (a_view v) = leb v.number d.start

unfoldable pub seat_checks : Desk → SeatRecord → List Check
seat_checks d r =
    record { number = 8; applies = too_high d r } ∷ record { number = 9; applies = lacks_seat (members_in r) d.seat }
    ∷ record { number = 10; applies = stray_start r } ∷ record { number = 14; applies = stale_notice d r }
    ∷ record { number = 15; applies = unawaited_view d r } ∷ record { number = 16; applies = stale_view d r } ∷ []
