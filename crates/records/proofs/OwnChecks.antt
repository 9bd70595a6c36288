-- For checks: checks 4 and 5 where either of two marks passes, by those on a record's own mark and length: one mark
-- first, then the other.
use mathlib.Core.Path.{◌≡◌, refl}
use mathlib.Core.Bool.{Bool, true, false}
use mathlib.Core.List.{List}
use Prim.Native.Nat.{ℕ, ◌<◌}
use native.Mathlib.Omega.{arith}
use lib.ListN.{length}
use lib.Dec.{eqb}
use borrow.Author.Tests.{ne_eqb}
use Rattle.laws.proofs.Tab.{length_tab}
use Rattle.laws.specs.Upd.{ifb}
use Rattle.records.specs.Layout.{value_of, mark_of, check_for, check_either, check_own, decode_proposal}

-- a mark that a check passes is not refused by 4
passed_mark : (t : Bool) → ◌≡◌ {A = ℕ} (ifb t 0 5) 4 → ⊥
passed_mark true e = omega arith
passed_mark false e = omega arith

module _ (m : List ℕ) (j : ℕ) (n : List ℕ) (k : ℕ) (b : List ℕ) where
  -- where the first one's own mark is not refused, its own checks are the two checks
  pub by_first : (check_own m j b ≡ 4 → ⊥) → check_either m j n k b ≡ check_own m j b
  unfolding check_either check_own check_for
  by_first h = go (eqb (mark_of b) (value_of m)) refl
    where
      go : (s : Bool) → eqb (mark_of b) (value_of m) ≡ s → check_either m j n k b ≡ check_own m j b
      go true d = rw d
      go false d = absurd (h (rw d))

  -- where it is refused, the second one's are
  pub by_second : 0 < j → check_own m j b ≡ 4 → check_either m j n k b ≡ check_own n k b
  unfolding check_either check_own check_for
  by_second l h = go (eqb (mark_of b) (value_of m)) (eqb (mark_of b) (value_of n)) refl refl
    where
      go : (s t : Bool) → eqb (mark_of b) (value_of m) ≡ s → eqb (mark_of b) (value_of n) ≡ t
          → check_either m j n k b ≡ check_own n k b
      go true t d e = absurd (passed_mark (eqb (length b) j) (rw (d, ne_eqb j 0 (λ z. omega arith)) at h))
      go false true d e = rw (d, e)
      go false false d e = rw (d, e)

-- any bytes have sixteen used numbers
pub used_sixteen : (b : List ℕ) → length (decode_proposal b).used ≡ 16
unfolding decode_proposal
used_sixteen b = length_tab 16 _
