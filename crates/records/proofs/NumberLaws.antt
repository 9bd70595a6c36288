-- For numbers: checks 8 and 10 of sixteen numbers, passed.
use mathlib.Core.Path.{◌≡◌, refl, sym, ap, ◌∙◌}
use mathlib.Core.Bool.{Bool, true, false, not, ◌&&◌}
use mathlib.Core.List.{List}
use Prim.Native.Nat.{ℕ, zero, suc, ◌-◌, ◌^◌, ◌≤◌, ◌<◌}
use native.Mathlib.Omega.{arith}
use native.Mathlib.Decide.{dec_lt}
use lib.ListN.{length, get_or, get_or-eq_default}
use lib.Dec.{eqb, ltb}
use lib.Bits.{bit_and}
use mir.Val.{bool_byte}
use borrow.Author.Tests.{le-ltb, lt-ltb, ne_eqb}
use Rattle.laws.specs.Big.{Below}
use Rattle.laws.specs.Fin.{sum}
use Rattle.laws.specs.Upd.{ifb}
use Rattle.laws.proofs.Fin.{anyb_none, none_anyb, as-facts, true_false, sum_ext, sum_one, any_count}
use Rattle.laws.proofs.Loops.{flag}
use Rattle.seats.specs.Offices.{serves, offices_of, lowest_of}
use Rattle.seats.proofs.OfficeLaws.{has_offices}
use Rattle.seats.proofs.OfficeLoops.{Seen, been_at, dropped, been_none, been_all, been_not}
use Rattle.seats.proofs.OfficeLoops.{seen_office, been_same, been_other, low_next}
use Rattle.records.specs.Numbers.{limit, above_limit, non_zero, non_zero_count, stray_number}

module _ (numbers : List ℕ) where
  pub none_above : ((o : ℕ) → o < 16 → get_or numbers o 0 ≤ limit) → above_limit numbers ≡ false
  none_above h = none_anyb 16 _ (λ o l. le-ltb limit _ (h o l))

  -- so each has room in four bytes
  pub sixteen_below : length numbers ≡ 16 → ((o : ℕ) → o < 16 → get_or numbers o 0 ≤ limit) → Below (2 ^ 32) numbers
  sixteen_below n h o = go (dec_lt o 16)
    where
      go : Dec (o < 16) → get_or numbers o 0 < 2 ^ 32
      go (yes l) = let x = h o l in omega arith
      go (no l) = rw (get_or-eq_default numbers 0 {n = o} (omega arith)) (omega arith)

  zero_out : (a : Bool) (n : ℕ) → not a && not (eqb n 0) ≡ false → a ≡ false → n ≡ 0
  zero_out true n e f = absurd (true_false true refl f)
  zero_out false n e f = simp as-facts at e

  zero_in : (a : Bool) (n : ℕ) → (a ≡ false → n ≡ 0) → not a && not (eqb n 0) ≡ false
  zero_in true n h = refl
  zero_in false n h = simp as-facts (h refl)

  module _ (members : ℕ) where
    pub stray_out : stray_number members numbers ≡ false → (o : ℕ) → o < 16 → serves members o ≡ false
        → get_or numbers o 0 ≡ 0
    stray_out e o l = zero_out (serves members o) (get_or numbers o 0) (anyb_none 16 _ e o l)

    pub stray_in : ((o : ℕ) → o < 16 → serves members o ≡ false → get_or numbers o 0 ≡ 0)
        → stray_number members numbers ≡ false
    stray_in h = none_anyb 16 _ (λ o l. zero_in (serves members o) (get_or numbers o 0) (h o l))

  -- a loop through the offices of `all`, of which `left` remain: the numbers not 0 but for where it has been
  abbrev other : Bool → ℕ → ℕ
  other been o = ifb (not been && non_zero numbers o) 1 0

  abbrev pub others : ℕ → ℕ → ℕ
  others all left = sum 16 (λ o. other (been_at all left o) o)

  pub others_start : (all : ℕ) → non_zero_count numbers ≡ others all all
  others_start all = sum_ext 16 _ _ (λ o l. rw (been_none all o))

  pub others_next : {P : ℕ → Type 0} {all left o n : ℕ} → Seen P all left → (left ≡ 0 → ⊥) → o ≡ lowest_of left
      → n ≡ others all left →
      let there = bool_byte (non_zero numbers o) in
      (there ≤ n) × (n - there ≡ others all (bit_and left (left - 1)))
  others_next {P} {all} {left} {o} s some low e =
      let z = sum_one 16 (λ k. other (been_at all (dropped left o) k) k) (λ k. other (been_at all left k) k) o
      (seen_office s some low) (λ k l q. ap (λ (b : Bool). other b k) (been_other s some low k l q)) in
      let a : other (been_at all (dropped left o) o) o ≡ 0 = rw (been_same s some low) in
      let b : other (been_at all left o) o ≡ bool_byte (non_zero numbers o) =
      rw (been_not s some low, flag (non_zero numbers o)) in
      (omega arith, rw (low_next s.below some low) (omega arith))

  positive : (n : ℕ) → not (eqb n 0) ≡ ltb 0 n
  positive zero = refl
  positive (suc n) = rw (ne_eqb (suc n) 0 (λ q. omega arith), lt-ltb 0 (suc n) (omega arith))

  -- where it has been at the offices of all members, the others are the stray ones
  pub others_stray : (members n left : ℕ) → left ≡ 0 → n ≡ others (offices_of members) left
      → not (eqb n 0) ≡ stray_number members numbers
  others_stray members n left z e =
      let offices = offices_of members in
      let same : others offices 0 ≡ sum 16 (λ k. other (serves members k) k) =
      sum_ext 16 _ _ (λ k l. ap (λ (b : Bool). other b k) (been_all offices k ∙ has_offices members k l)) in
      positive n ∙ rw (e, z, same) (sym (any_count 16 _))
