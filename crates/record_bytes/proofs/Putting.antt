-- For bytes: what a copied part leaves, and the bytes of the library's numbers.
use Rattle.std.specs.Int.{to_be_bytes, w32, w64}
use borrow.Rule.Slice.PartMut.{put_mid, Post-is}
use mathlib.Core.Path.{◌≡◌, refl, sym, ap, ◌∙◌}
use mathlib.Core.List.{List, ◌++◌, append_assoc}
use Prim.Native.Nat.{ℕ, ◌+◌, ◌-◌, ◌/◌, ◌%◌, ◌^◌, ◌≤◌}
use native.Mathlib.Omega.{arith}
use lib.ListN.{length, take, drop}
use lib.Seq.{sets, sets-eq}
use Rattle.laws.specs.Big.{bytes4, bytes8}
use Rattle.laws.proofs.Big.{Wrote, wrote_then}

pub put_is : (o bs ys : List ℕ) (at : ℕ) → ys ≡ bs → at + length bs ≤ length o
    → put_mid at (at + length bs - at) o ys ≡ sets o at bs
put_is o bs ys at e h =
    ap (λ (l : List ℕ). take at o ++ (ys ++ l)) (Post-is at (at + length bs) o (omega arith))
    ∙ rw e (sym (append_assoc (take at o) bs (drop (at + length bs) o)) ∙ sym (sets-eq bs o at h))

pub be4 : (x : ℕ) → to_be_bytes w32 x ≡ bytes4 x
be4 x = refl

pub be8 : (x : ℕ) → to_be_bytes w64 x ≡ bytes8 x
be8 x =
    let a : x / 2 ^ 56 % 256 ≡ x / 2 ^ 32 / 2 ^ 24 % 256 = omega arith in
    let b : x / 2 ^ 48 % 256 ≡ x / 2 ^ 32 / 2 ^ 16 % 256 = omega arith in
    let c : x / 2 ^ 40 % 256 ≡ x / 2 ^ 32 / 2 ^ 8 % 256 = omega arith in
    let e : x / 2 ^ 24 % 256 ≡ x % 2 ^ 32 / 2 ^ 24 % 256 = omega arith in
    let f : x / 2 ^ 16 % 256 ≡ x % 2 ^ 32 / 2 ^ 16 % 256 = omega arith in
    let g : x / 2 ^ 8 % 256 ≡ x % 2 ^ 32 / 2 ^ 8 % 256 = omega arith in
    let h : x % 256 ≡ x % 2 ^ 32 % 256 = omega arith in
    cc

module _ {o p q : List ℕ} {at : ℕ} {a r : List ℕ} (x : ℕ) (front : Wrote o at a p) where
  pub wrote4 : r ≡ to_be_bytes w32 x → q ≡ sets p (at + length a) r → Wrote o at (a ++ bytes4 x) q
  wrote4 e f = wrote_then (bytes4 x) front (rw (e ∙ be4 x) at f)

  pub wrote8 : r ≡ to_be_bytes w64 x → q ≡ sets p (at + length a) r → Wrote o at (a ++ bytes8 x) q
  wrote8 e f = wrote_then (bytes8 x) front (rw (e ∙ be8 x) at f)
