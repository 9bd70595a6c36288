-- hearing: what a seat that has accepted a record tells: the room is one of the eight; of a view: its own numbers are
-- sound, a change was open with the view's start number, and it is closed then.
use mathlib.Core.Path.{◌≡◌, sym, ◌∙◌}
use mathlib.Core.Bool.{true, false, not}
use mathlib.Core.List.{List, ◌∷◌}
use Prim.Native.Nat.{ℕ, ◌<◌}
use native.Mathlib.Omega.{arith}
use native.Mathlib.Decide.{ℕ_discrete}
use borrow.Author.Tests.{leb-false, ltb-false, eqb-true, ne_eqb, not-false}
use lib.Dec.{ltb, leb}
use Rattle.laws.specs.Checks.{Check, numbered, first_of}
use Rattle.laws.proofs.Checks.{first_none, no_reason}
use Rattle.laws.proofs.Fin.{or_l, or_r}
use Rattle.seats.specs.Seats.{seat_count}
use Rattle.records.specs.Numbers.{limit, room_count, room_above}
use Rattle.records.specs.Layout.{notice_mark, notice_length, check_own, check_for, room_of, decode_view, encode_view}
use Rattle.records.specs.declared.View.{View}
use Rattle.records.proofs.CheckLaws.{long_mark}
use Rattle.desk.specs.declared.checks.Desk.{Desk}
use Rattle.desk.specs.Views.{view_above, start_for}
use Rattle.desk.specs.SeatChecks.{a_view, seat_above, too_high, lacks_seat, stray_start, unawaited_view, seat_checks}
use Rattle.desk.specs.Hearing.{seat_record_of, check_seat_record, hear_checks, after_record, hear_of}
use Rattle.desk.proofs.HearingLaws.{by_view}
use Rattle.desk.proofs.Accepted.{SoundDesk}

pub record TookView (d : Desk) (b : List ℕ) : Type 0 where
  pub sound : SoundDesk d
  pub changing : d.changing ≡ true
  pub own : start_for (decode_view b) d.seat ≡ d.start
  pub closes : (hear_of d b).desk.changing ≡ false

module _ (d : Desk) (b : List ℕ) where
  -- no check applies to what is accepted
  none_applies : (hear_of d b).refusal ≡ 0 → first_of (hear_checks d b) ≡ 0
  unfolding hear_of
  none_applies z = go (ℕ_discrete (first_of (hear_checks d b)) 0) z
    where
      go : Dec (first_of (hear_checks d b) ≡ 0) → (hear_of d b).refusal ≡ 0 → first_of (hear_checks d b) ≡ 0
      go (yes e) z = e
      go (no n) z = rw (ne_eqb (first_of (hear_checks d b)) 0 n) at z

  module _ (z : (hear_of d b).refusal ≡ 0) where
    -- the checks in turn: 6, 4 and 5, 20, and those of the record
    below : d.seat < seat_count
    unfolding hear_checks
    below = leb-false seat_count d.seat ((first_none (leb seat_count d.seat) 5 _).0 (none_applies z)).0

    abbrev room_check : Check
    room_check = record { number = 20; applies = room_above (room_of b) }

    behind_6 : first_of (numbered (check_seat_record b) ∷ room_check ∷ seat_checks d (seat_record_of b)) ≡ 0
    unfolding hear_checks
    behind_6 = ((first_none (leb seat_count d.seat) 5 _).0 (none_applies z)).1

    read : check_seat_record b ≡ 0
    read = (no_reason (check_seat_record b) _ behind_6).0

    behind_5 : first_of (room_check ∷ seat_checks d (seat_record_of b)) ≡ 0
    behind_5 = (no_reason (check_seat_record b) _ behind_6).1

    pub room_taken : room_of b < room_count
    room_taken = leb-false room_count (room_of b) ((first_none (room_above (room_of b)) 19 _).0 behind_5).0

  module _ (other : check_own notice_mark notice_length b ≡ 4) (z : (hear_of d b).refusal ≡ 0) where
    is_view : seat_record_of b ≡ a_view (decode_view b)
    is_view = let r = by_view b other in r.is (sym r.number ∙ read z)

    of_view_lem : first_of (seat_checks d (a_view (decode_view b))) ≡ 0
    of_view_lem =
        let e : first_of (seat_checks d (seat_record_of b)) ≡ 0 =
        ((first_none (room_above (room_of b)) 19 _).0 (behind_5 z)).1 in
        rw is_view at e

    low : too_high d (a_view (decode_view b)) ≡ false
    unfolding seat_checks
    low = ((first_none (too_high d (a_view (decode_view b))) 7 _).0 of_view_lem).0

    awaited : unawaited_view d (a_view (decode_view b)) ≡ false
    unfolding seat_checks
    awaited =
        let nine = ((first_none (too_high d (a_view (decode_view b))) 7 _).0 of_view_lem).1 in
        let ten = ((first_none (lacks_seat (decode_view b).members.bits d.seat) 8 _).0 nine).1 in
        let later = ((first_none (stray_start (a_view (decode_view b))) 9 _).0 ten).1 in
        ((first_none (unawaited_view d (a_view (decode_view b))) 14 _).0 later).0

    own_low : seat_above d ≡ false
    unfolding too_high
    own_low = or_r (view_above (decode_view b)) _ low

    pub took_view : TookView d b
    unfolding after_record hear_of
    took_view = record {
      sound = record {
        seat = below z;
        start = ltb-false limit d.start (or_l _ (ltb limit d.view) own_low);
        view = ltb-false limit d.view (or_r (ltb limit d.start) _ own_low);
      };
      changing = not-false d.changing (or_l _ _ awaited);
      own = eqb-true _ _ (not-false _ (or_r (not d.changing) _ awaited));
      closes = rw (none_applies z, is_view);
    }

-- the bytes of a view have no notice's mark
pub view_other : (room : ℕ) (v : View) → check_own notice_mark notice_length (encode_view room v) ≡ 4
unfolding check_own check_for encode_view
view_other room v = rw (long_mark (encode_view room v) (omega arith))
