-- checks: where no reason applies to a record.
use mathlib.Core.Path.{◌≡◌}
use mathlib.Core.Bool.{false}
use Prim.Native.Nat.{ℕ}
use Rattle.laws.specs.Checks.{first_of}
use Rattle.records.specs.declared.Notice.{Notice}
use Rattle.records.specs.declared.View.{View}
use Rattle.desk.specs.declared.checks.Desk.{Desk}
use Rattle.desk.specs.SeatChecks.{a_notice, a_view, too_high, lacks_seat, stray_start}
use Rattle.desk.specs.SeatChecks.{stale_notice, unawaited_view, stale_view, seat_checks}

module _ (d : Desk) where
  pub notice_0 : (n : Notice) → too_high d (a_notice n) ≡ false → lacks_seat n.members.bits d.seat ≡ false
      → stale_notice d (a_notice n) ≡ false → ◌≡◌ {A = ℕ} 0 (first_of (seat_checks d (a_notice n)))
  unfolding seat_checks
  notice_0 n a b c = rw (a, b, c)

  pub view_0 : (v : View) → too_high d (a_view v) ≡ false → lacks_seat v.members.bits d.seat ≡ false
      → stray_start (a_view v) ≡ false → unawaited_view d (a_view v) ≡ false → stale_view d (a_view v) ≡ false
      → ◌≡◌ {A = ℕ} 0 (first_of (seat_checks d (a_view v)))
  unfolding seat_checks
  view_0 v a b c e f = rw (a, b, c, e, f)
