-- checks: a record of a sheet, by what its reader tells.
use mathlib.Core.Path.{◌≡◌, refl, sym, ◌∙◌}
use mathlib.Core.Bool.{Bool, true, false, not}
use mathlib.Core.List.{List}
use Prim.Native.Nat.{ℕ, ◌<◌}
use native.Mathlib.Omega.{arith}
use lib.ListN.{length}
use lib.Dec.{eqb}
use borrow.Author.Tests.{leb-false, eqb-false}
use Rattle.laws.specs.Checks.{first_of}
use Rattle.laws.specs.Upd.{ifb}
use Rattle.seats.specs.Seats.{seat_count}
use Rattle.records.specs.Layout.{sync_mark, sync_length, value_of, mark_of, check_own, decode_sync}
use Rattle.records.specs.Refusals.{number}
use Rattle.records.specs.declared.Sync.{Sync}
use Rattle.records.specs.declared.refusal.Refusal.{Refusal}
use Rattle.records.proofs.CheckLaws.{own_4}
use Rattle.desk.proofs.Refusals.{refusal_some}
use Rattle.sheet.specs.Sheet.{other_mark, no_seat, sync_above, sync_checks}

module _ (b : List ℕ) (size : length b ≡ sync_length) where
  -- bytes of its length are refused for their mark
  by_mark : check_own sync_mark sync_length b ≡ ifb (other_mark b) 4 0
  by_mark = own_4 sync_mark sync_length b size (omega arith) ∙ go (eqb (mark_of b) (value_of sync_mark))
    where
      go : (t : Bool) → ◌≡◌ {A = ℕ} (ifb t 0 4) (ifb (not t) 4 0)
      go true = refl
      go false = refl

  pub record_4 : (e : Refusal) → number e ≡ check_own sync_mark sync_length b → number e ≡ first_of (sync_checks b)
  unfolding sync_checks
  record_4 e is = go (other_mark b) _ (is ∙ by_mark)
    where
      go : (t : Bool) (r : ℕ) → number e ≡ ifb t 4 0 → number e ≡ ifb t 4 r
      go true r q = q
      go false r q = absurd (eqb-false _ _ (refusal_some e) q)

  module _ (read : 0 ≡ check_own sync_mark sync_length b) (s : Sync) (is : s ≡ decode_sync b) where
    own : other_mark b ≡ false
    own = go (other_mark b) (read ∙ by_mark)
      where
        go : (t : Bool) → ◌≡◌ {A = ℕ} 0 (ifb t 4 0) → t ≡ false
        go true q = absurd (omega arith)
        go false q = refl

    pub record_6 : no_seat s ≡ true → 6 ≡ first_of (sync_checks b)
    unfolding sync_checks
    record_6 n = rw (own, sym is, n)

    module _ (seat : no_seat s ≡ false) where
      pub record_8 : sync_above s ≡ true → 8 ≡ first_of (sync_checks b)
      unfolding sync_checks
      record_8 a = rw (own, sym is, seat, a)

      pub record_0 : sync_above s ≡ false → ◌≡◌ {A = ℕ} 0 (first_of (sync_checks b))
      unfolding sync_checks
      record_0 a = rw (own, sym is, seat, a)

pub seat_below : (s : Sync) → no_seat s ≡ false → s.seat < seat_count
seat_below s n = leb-false seat_count s.seat n

pub ruleset record_laws = (record_4, record_6, record_8, record_0, seat_below)
