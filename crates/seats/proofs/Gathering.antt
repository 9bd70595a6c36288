-- For offices::gather: the offices of a set, gathered by shifts and masks.
use mathlib.Core.Path.{◌≡◌, refl, sym, ap, ◌∙◌}
use mathlib.Core.Bool.{Bool, true, false, not, ◌&&◌, ◌||◌, and-true, and-false, or-false}
use Prim.Native.Nat.{ℕ, ◌+◌, ◌*◌, ◌/◌, ◌%◌, ◌^◌, ◌<◌}
use native.Mathlib.Omega.{arith}
use native.Mathlib.Nat.{add_comm}
use native.Mathlib.Decide.{dec_lt}
use lib.Dec.{eqb}
use lib.Bits.{bit_or, bit_and, mask_lt}
use borrow.Author.Tests.{eqb-true, not-true}
use Rattle.laws.specs.Bit.{bit}
use Rattle.laws.proofs.Bit.{bit_shift}
use Rattle.laws.specs.Fin.{allb}
use Rattle.laws.proofs.Fin.{allb_out, and_iff}
use Rattle.laws.specs.Upd.{ifb}
use Rattle.seats.specs.Seats.{has, union_of}
use Rattle.seats.specs.Offices.{serves, offices_of}
use Rattle.seats.proofs.Laws.{has_union, has_and, same_seats, has_high}
use Rattle.seats.proofs.OfficeLaws.{has_offices, offices_lt}

-- masks: one, two, four, eight places of each block of four times as many
abbrev in_fours : ℕ
in_fours = 0x1111_1111_1111_1111

abbrev in_eights : ℕ
in_eights = 0x0303_0303_0303_0303

abbrev in_sixteens : ℕ
in_sixteens = 0x000f_000f_000f_000f

abbrev in_halves : ℕ
in_halves = 0x0000_00ff_0000_00ff

-- the place of an office's lowest seat: whether any of its four seats is in the set
unfoldable pub spread : ℕ → ℕ
spread x = bit_and (bit_or (bit_or (bit_or x (x / 2)) (x / 4)) (x / 8)) in_fours

-- what stands k places up comes down, and a mask keeps what counts
unfoldable pub fold : ℕ → ℕ → ℕ → ℕ
fold k m y = bit_and (bit_or y (y / 2 ^ k)) m

unfoldable pub gathered : ℕ → ℕ
gathered x = fold 24 0xffff (fold 12 in_halves (fold 6 in_sixteens (fold 3 in_eights (spread x))))

has_or : (x y s : ℕ) → has (bit_or x y) s ≡ has x s || has y s
unfolding union_of
has_or x y s = has_union x y s

has_shift : (k x s : ℕ) → has (x / 2 ^ k) s ≡ has x (k + s)
unfolding has
has_shift k x s = ap (λ (n : ℕ). eqb n 1) (bit_shift k x s)

-- y has no bit outside the mask n
abbrev Within : ℕ → ℕ → Type 0
Within n y = (s : ℕ) → has n s ≡ false → has y s ≡ false

masked : (z m : ℕ) → Within m (bit_and z m)
masked z m s e = has_and z m s ∙ ap (λ (b : Bool). has z s && b) e ∙ and-false (has z s)

-- An office stands at p before a fold of k places and at q after it. Of the places q and k + q, p is the one inside
-- the mask n from before; the fold's own mask m keeps q.
abbrev moves : ℕ → ℕ → ℕ → ℕ → ℕ → Bool
moves k n m p q = has m q && (eqb p (ifb (has n q) q (k + q)) && not (has n q && has n (k + q)))

fold_at : (k n m p q y : ℕ) → Within n y → moves k n m p q ≡ true → has (fold k m y) q ≡ has y p
unfolding fold
fold_at k n m p q y w e =
    let c = (and_iff (has m q) _).0 e in
    let d = (and_iff (eqb p (ifb (has n q) q (k + q))) _).0 c.1 in
    has_and (bit_or y (y / 2 ^ k)) m q
    ∙ rw (c.0, and-true, has_or y (y / 2 ^ k) q, has_shift k y q) (go (has n q) refl (eqb-true _ _ d.0) d.1)
  where
    go : (t : Bool) → has n q ≡ t → p ≡ ifb t q (k + q) → not (t && has n (k + q)) ≡ true
        → has y q || has y (k + q) ≡ has y p
    go true a b c = rw (b, w (k + q) (not-true _ c), or-false)
    go false a b c = rw (b, w q a)

-- with w offices to a block of 4 * w places, office o stands here
abbrev place : ℕ → ℕ → ℕ
place w o = 4 * w * (o / w) + o % w

-- a fold moves all sixteen offices: a computed test
level : (k n m : ℕ) (p q : ℕ → ℕ) → allb 16 (λ o. moves k n m (p o) (q o)) ≡ true
    → (y o : ℕ) → Within n y → o < 16 → has (fold k m y) (q o) ≡ has y (p o)
level k n m p q e y o w h = fold_at k n m (p o) (q o) y w (allb_out 16 (λ o. moves k n m (p o) (q o)) e o h)

fold_within : (k m y : ℕ) → Within m (fold k m y)
unfolding fold
fold_within k m y = masked (bit_or y (y / 2 ^ k)) m

spread_within : (x : ℕ) → Within in_fours (spread x)
unfolding spread
spread_within x = masked (bit_or (bit_or (bit_or x (x / 2)) (x / 4)) (x / 8)) in_fours

every_fourth : (o : ℕ) → o < 16 → has in_fours (4 * o) ≡ true
unfolding allb has bit
every_fourth = allb_out 16 (λ k. has in_fours (4 * k)) refl

spread_at : (x o : ℕ) → o < 16 → has (spread x) (place 1 o) ≡ serves x o
unfolding spread serves
spread_at x o h =
    let q : place 1 o ≡ 4 * o = omega arith in
    rw (
      q,
      has_and,
      every_fourth o h,
      and-true,
      has_or,
      has_shift 3,
      has_or,
      has_shift 2,
      has_or,
      has_shift 1,
      add_comm 1,
      add_comm 2,
      add_comm 3,
    )

gathered_at : (x o : ℕ) → o < 16 → has (gathered x) o ≡ serves x o
unfolding gathered allb has bit
gathered_at x o h =
    let a : ℕ = spread x in
    let b : ℕ = fold 3 in_eights a in
    let c : ℕ = fold 6 in_sixteens b in
    let d : ℕ = fold 12 in_halves c in
    level 24 in_halves 0xffff (place 8) (λ k. k) refl d o (fold_within 12 in_halves c) h
    ∙ level 12 in_sixteens in_halves (place 4) (place 8) refl c o (fold_within 6 in_sixteens b) h
    ∙ level 6 in_eights in_sixteens (place 2) (place 4) refl b o (fold_within 3 in_eights a) h
    ∙ level 3 in_fours in_eights (place 1) (place 2) refl a o (spread_within x) h
    ∙ spread_at x o h

gathered_lt : (x : ℕ) → gathered x < 2 ^ 16
unfolding gathered fold
gathered_lt x =
    let d : ℕ = fold 12 in_halves (fold 6 in_sixteens (fold 3 in_eights (spread x))) in
    mask_lt (bit_or d (d / 2 ^ 24)) 16

pub gathers : (x : ℕ) → gathered x ≡ offices_of x
gathers x =
    let a = gathered_lt x in
    let b = offices_lt x in
    same_seats (gathered x) (offices_of x) (omega arith) (omega arith) (λ s h. at s (dec_lt s 16))
  where
    at : (s : ℕ) → Dec (s < 16) → has (gathered x) s ≡ has (offices_of x) s
    at s (yes l) = gathered_at x s l ∙ sym (has_offices x s l)
    at s (no n) =
        has_high 16 (gathered x) s (gathered_lt x) (omega arith)
        ∙ sym (has_high 16 (offices_of x) s (offices_lt x) (omega arith))
