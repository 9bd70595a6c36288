-- A part of a list, n entries from a place on: where it was lent and comes back changed, where it was written anew, and
-- beside what was written anew.
use mathlib.Core.Path.{◌≡◌, sym, ap, ◌∙◌}
use mathlib.Core.List.{List, ◌++◌, append_assoc}
use Prim.Native.Nat.{ℕ, ◌+◌, ◌-◌, ◌≤◌, ◌<◌}
use native.Mathlib.Omega.{arith}
use lib.ListN.{length, get_or, take, drop, length-take, length-drop, take-append-drop}
use lib.Seq.{sets, sets-eq, drop-drop, get_or-take, get_or-drop, ext_get_or, length-sets, length-take-le}
use borrow.Rule.Slice.PartMut.{put_mid}
use Rattle.laws.proofs.Seqs.{get_or_sets_out, get_or_sets_at}

pub same_count : (a n : ℕ) → a + n - a ≡ n
same_count a n = omega arith

module _ {A : Type 0} where
  pub put_part : (a n : ℕ) (l part : List A) → length part ≡ n → a + n ≤ length l
      → put_mid a (a + n - a) l part ≡ sets l a part
  put_part a n l part e h =
      let k : a + n - a ≡ length part = omega arith in
      ap (λ (r : List A). take a l ++ (part ++ r)) (ap (λ (m : ℕ). drop m (drop a l)) k ∙ drop-drop (length part) a l)
      ∙ sym (append_assoc (take a l) part (drop (a + length part) l)) ∙ sym (sets-eq part l a (omega arith))

  pub part_length : (n a : ℕ) (l : List A) → a + n ≤ length l → length (take n (drop a l)) ≡ n
  part_length n a l h =
      let e = length-drop a l in
      let fits : n ≤ length (drop a l) = omega arith in
      length-take-le n (drop a l) fits

  pub get_or_part : (n a i : ℕ) (l : List A) (d : A) → i < n → get_or (take n (drop a l)) i d ≡ get_or l (a + i) d
  get_or_part n a i l d h = get_or-take n (drop a l) i d h ∙ get_or-drop a l i d

  pub part_written : (d : A) (n a : ℕ) (l part : List A) → length part ≡ n → a + n ≤ length l
      → take n (drop a (sets l a part)) ≡ part
  part_written d n a l part e h =
      let s = length-sets l a part in
      let long : a + n ≤ length (sets l a part) = omega arith in
      let count = part_length n a (sets l a part) long in
      let fits : a + length part ≤ length l = omega arith in
      ext_get_or d _ part (count ∙ sym e)
      (λ i lt.
      let small : i < n = omega arith in
      let there : i < length part = omega arith in
      get_or_part n a i (sets l a part) d small ∙ get_or_sets_at part l a i d there fits)

  pub part_beside : (d : A) (n a b : ℕ) (l part : List A) → (b < a + length part → a < b + n → ⊥)
      → take n (drop b (sets l a part)) ≡ take n (drop b l)
  part_beside d n a b l part apart =
      let s = length-sets l a part in
      let p = length-drop b (sets l a part) in
      let q = length-drop b l in
      let t = length-take n (drop b (sets l a part)) in
      let u = length-take n (drop b l) in
      let same : length (take n (drop b (sets l a part))) ≡ length (take n (drop b l)) = omega arith in
      ext_get_or d _ _ same
      (λ i lt.
      let small : i < n = omega arith in
      get_or_part n b i (sets l a part) d small
      ∙ get_or_sets_out part l a (b + i) d (λ x y. apart (omega arith) (omega arith))
      ∙ sym (get_or_part n b i l d small))

  -- a part written where it stands
  pub part_self : (n a : ℕ) (l : List A) → a + n ≤ length l → sets l a (take n (drop a l)) ≡ l
  part_self n a l h =
      let e = part_length n a l h in
      let fits : a + length (take n (drop a l)) ≤ length l = omega arith in
      sets-eq (take n (drop a l)) l a fits
      ∙ rw e (append_assoc (take a l) (take n (drop a l)) (drop (a + n) l)
      ∙ rw (← drop-drop n a l, take-append-drop n (drop a l)) (take-append-drop a l))
