-- hearing: what makes a seat accept a notice and a view, as plain facts, and the bytes that the record writer makes.
use mathlib.Core.Path.{◌≡◌, sym, ◌∙◌}
use mathlib.Core.Bool.{true, false}
use Prim.Native.Nat.{ℕ, ◌≤◌, ◌<◌}
use native.Mathlib.Omega.{arith}
use lib.ListN.{get_or}
use borrow.Author.Tests.{le-ltb, lt-leb, eq-eqb}
use Rattle.laws.specs.Checks.{first_of}
use Rattle.laws.proofs.Fin.{or_out}
use Rattle.seats.specs.Seats.{seat_count, contains_of}
use Rattle.seats.specs.Offices.{serves}
use Rattle.records.specs.Numbers.{limit, room_count}
use Rattle.records.proofs.NumberLaws.{none_above, stray_in}
use Rattle.records.specs.Layout.{encode_notice, encode_view}
use Rattle.records.specs.Fits.{FitsNotice, FitsView}
use Rattle.records.specs.declared.Notice.{Notice}
use Rattle.records.specs.declared.View.{View}
use Rattle.records.proofs.RoundTrip.{notice_back, notice_room, notice_passes, view_back, view_room}
use Rattle.records.proofs.RoundTrip.{view_passes}
use Rattle.desk.specs.declared.checks.Desk.{Desk}
use Rattle.desk.specs.Views.{start_for}
use Rattle.desk.specs.SeatChecks.{a_notice, a_view, seat_above, too_high, lacks_seat, seat_checks}
use Rattle.desk.specs.Hearing.{after_record, hear_of}
use Rattle.desk.proofs.HearingLaws.{by_notice, by_view, other_mark_lem, hear_accepted}
use Rattle.desk.proofs.Reasons.{notice_0, view_0}

-- the seat's own numbers pass 6 and 8
pub record SoundDesk (d : Desk) : Type 0 where
  pub seat : d.seat < seat_count
  pub start : d.start ≤ limit
  pub view : d.view ≤ limit

pub record TakesNotice (d : Desk) (n : Notice) : Type 0 where
  pub within : n.start ≤ limit
  pub member : contains_of n.members.bits d.seat ≡ true
  pub above : d.start < n.start
  pub reaches : d.view ≤ n.start

pub record TakesView (d : Desk) (v : View) : Type 0 where
  pub within : v.number ≤ limit
  pub starts : (o : ℕ) → o < 16 → get_or v.starts o 0 ≤ limit
  pub member : contains_of v.members.bits d.seat ≡ true
  pub outside : (o : ℕ) → o < 16 → serves v.members.bits o ≡ false → get_or v.starts o 0 ≡ 0
  pub changing : d.changing ≡ true
  pub own : start_for v d.seat ≡ d.start
  pub above : d.start < v.number

module _ (d : Desk) (s : SoundDesk d) where
  own_low : seat_above d ≡ false
  own_low = or_out _ _ (le-ltb limit d.start s.start) (le-ltb limit d.view s.view)

  notice_accepted : (n : Notice) → TakesNotice d n → first_of (seat_checks d (a_notice n)) ≡ 0
  unfolding too_high lacks_seat
  notice_accepted n t = sym (notice_0 d n
      (or_out _ _ (le-ltb limit n.start t.within) own_low)
      (rw t.member)
      (or_out _ _ (lt-leb n.start d.start t.above) (le-ltb n.start d.view t.reaches)))

  view_accepted : (v : View) → TakesView d v → first_of (seat_checks d (a_view v)) ≡ 0
  unfolding too_high lacks_seat
  view_accepted v t = sym (view_0 d v
      (or_out _ _ (or_out _ _ (le-ltb limit v.number t.within) (none_above v.starts t.starts)) own_low)
      (rw t.member) (stray_in v.starts v.members.bits t.outside)
      (rw (t.changing, eq-eqb (start_for v d.seat) d.start t.own))
      (lt-leb v.number d.start t.above))

  -- in any of the eight rooms
  module _ (room : ℕ) (in_room : room < room_count) where
    pub notice_heard : (n : Notice) → FitsNotice n → TakesNotice d n
        → hear_of d (encode_notice room n) ≡ record { refusal = 0; desk = after_record d (a_notice n) }
    notice_heard n f t =
        let c = notice_passes room n in
        let r = by_notice (encode_notice room n) (λ e. let z = sym c ∙ e in omega arith) in
        rw (notice_back room n f) at
        (hear_accepted d (encode_notice room n) s.seat r c
        (rw (notice_room room n) (lt-leb room_count room in_room)) (rw (notice_back room n f) (notice_accepted n t)))

    pub view_heard : (v : View) → FitsView v → TakesView d v
        → hear_of d (encode_view room v) ≡ record { refusal = 0; desk = after_record d (a_view v) }
    view_heard v f t =
        let c = view_passes room v f in
        let r = by_view (encode_view room v) (other_mark_lem (encode_view room v) c) in
        rw (view_back room v f) at
        (hear_accepted d (encode_view room v) s.seat r c
        (rw (view_room room v) (lt-leb room_count room in_room)) (rw (view_back room v f) (view_accepted v t)))
