-- For SeatSet: what holds of sets of seats: membership, bounds, equality.
use mathlib.Core.Path.{◌≡◌, refl, sym, ap, ◌∙◌}
use mathlib.Core.Bool.{Bool, true, false, not, ◌&&◌, ◌||◌, and-false, true≢false, false≢true}
use Prim.Native.Nat.{ℕ, zero, suc, ◌-◌, ◌^◌, ◌≤◌, ◌<◌, min, max}
use native.Mathlib.Omega.{arith}
use native.Mathlib.Decide.{ℕ_discrete, dec_lt}
use lib.Dec.{eqb, ltb}
use lib.Bits.{bit_or, bit_and, or_lt, and_le_l}
use lib.Pow.{pow-lt}
use borrow.Author.Tests.{eq-eqb, ne_eqb, lt-ltb, le-ltb}
use Rattle.laws.specs.Bit.{bit}
use Rattle.laws.specs.Upd.{ifb}
use Rattle.laws.proofs.Fin.{if_cases}
use Rattle.laws.proofs.Bit.{bit_or_lem, bit_and_lem, bit_not, bit_lt, bit_zero, bit_pow_same, bit_pow_other, bit_ext, bit_high}
use Rattle.seats.specs.Seats.{has, contains_of, insert_of, remove_of, union_of, without_of}

-- two digits by cases
digit_cases : (P : ℕ → ℕ → Type 0) → P 0 0 → P 0 1 → P 1 0 → P 1 1 → (a b : ℕ) → a < 2 → b < 2 → P a b
digit_cases P p q r t zero zero ha hb = p
digit_cases P p q r t zero (suc zero) ha hb = q
digit_cases P p q r t (suc zero) zero ha hb = r
digit_cases P p q r t (suc zero) (suc zero) ha hb = t
digit_cases P p q r t (suc (suc a)) b ha hb = absurd (omega arith)
digit_cases P p q r t zero (suc (suc b)) ha hb = absurd (omega arith)
digit_cases P p q r t (suc zero) (suc (suc b)) ha hb = absurd (omega arith)

same_digit : (a b : ℕ) → a < 2 → b < 2 → eqb a 1 ≡ eqb b 1 → a ≡ b
same_digit =
    digit_cases (λ a b. eqb a 1 ≡ eqb b 1 → a ≡ b) (λ e. refl) (λ e. absurd (false≢true e))
    (λ e. absurd (true≢false e)) (λ e. refl)

not_digit : (b : ℕ) → b < 2 → eqb (1 - b) 1 ≡ not (eqb b 1)
not_digit zero hb = refl
not_digit (suc zero) hb = refl
not_digit (suc (suc b)) hb = absurd (omega arith)

-- membership
pub has_union : (x y s : ℕ) → has (union_of x y) s ≡ has x s || has y s
unfolding has union_of
has_union x y s =
    ap (λ (n : ℕ). eqb n 1) (bit_or_lem x y s)
    ∙ digit_cases (λ a b. eqb (max a b) 1 ≡ eqb a 1 || eqb b 1) refl refl refl refl (bit x s) (bit y s) (bit_lt x s)
    (bit_lt y s)

pub has_and : (x y s : ℕ) → has (bit_and x y) s ≡ has x s && has y s
unfolding has
has_and x y s =
    ap (λ (n : ℕ). eqb n 1) (bit_and_lem x y s)
    ∙ digit_cases (λ a b. eqb (min a b) 1 ≡ eqb a 1 && eqb b 1) refl refl refl refl (bit x s) (bit y s) (bit_lt x s)
    (bit_lt y s)

-- in a set of any width
pub has_not : (w y s : ℕ) → s < w → y < 2 ^ w → has (2 ^ w - 1 - y) s ≡ not (has y s)
unfolding has
has_not w y s h hy = ap (λ (n : ℕ). eqb n 1) (bit_not w s y h hy) ∙ not_digit (bit y s) (bit_lt y s)

has_without : (x y s : ℕ) → s < 64 → y < 2 ^ 64 → has (without_of x y) s ≡ has x s && not (has y s)
unfolding without_of
has_without x y s h hy = has_and x (2 ^ 64 - 1 - y) s ∙ ap (λ (b : Bool). has x s && b) (has_not 64 y s h hy)

-- the set of one seat
pub has_one : (s t : ℕ) → has (2 ^ s) t ≡ eqb t s
unfolding has
has_one s t = go (ℕ_discrete t s)
  where
    go : Dec (t ≡ s) → eqb (bit (2 ^ s) t) 1 ≡ eqb t s
    go (yes e) = rw (e, bit_pow_same s) (sym (eq-eqb s s refl))
    go (no n) = rw (bit_pow_other s t n) (sym (ne_eqb t s n))

pub has_insert : (x s t : ℕ) → s < 64 → has (insert_of x s) t ≡ has x t || eqb t s
unfolding insert_of union_of
has_insert x s t h = rw (lt-ltb s 64 h) (has_union x (2 ^ s) t ∙ ap (λ (b : Bool). has x t || b) (has_one s t))

pub has_remove : (x s t : ℕ) → s < 64 → t < 64 → has (remove_of x s) t ≡ has x t && not (eqb t s)
unfolding remove_of without_of
has_remove x s t h ht =
    rw (lt-ltb s 64 h) (has_without x (2 ^ s) t ht (pow-lt h) ∙ ap (λ (b : Bool). has x t && not b) (has_one s t))

-- a seat above 63 leaves a set as it is
pub insert_above : (x s : ℕ) → 64 ≤ s → insert_of x s ≡ x
unfolding insert_of
insert_above x s h = rw (le-ltb s 64 h)

pub remove_above : (x s : ℕ) → 64 ≤ s → remove_of x s ≡ x
unfolding remove_of
remove_above x s h = rw (le-ltb s 64 h)

pub has_empty : (s : ℕ) → has 0 s ≡ false
unfolding has
has_empty s = ap (λ (n : ℕ). eqb n 1) (bit_zero s)

-- a seat that is in both is out
pub left_out : (net joining leaving s : ℕ) → s < 64 → leaving < 2 ^ 64 → has leaving s ≡ true
    → has (without_of (union_of net joining) leaving) s ≡ false
left_out net joining leaving s h hl e = rw (has_without (union_of net joining) leaving s h hl, e, and-false)

-- a set is a 64-bit number, and stays one
pub has_high : (k x s : ℕ) → x < 2 ^ k → k ≤ s → has x s ≡ false
unfolding has
has_high k x s h le = ap (λ (n : ℕ). eqb n 1) (bit_high k s x h le)

pub has_below : (x s : ℕ) → x < 2 ^ 64 → has x s ≡ true → s < 64
has_below x s hx e = go (dec_lt s 64)
  where
    go : Dec (s < 64) → s < 64
    go (yes h) = h
    go (no n) = absurd (false≢true (sym (has_high 64 x s hx (omega arith)) ∙ e))

pub contains_has : (x s : ℕ) → x < 2 ^ 64 → contains_of x s ≡ has x s
unfolding contains_of
contains_has x s hx = go (dec_lt s 64)
  where
    go : Dec (s < 64) → ltb s 64 && has x s ≡ has x s
    go (yes h) = rw (lt-ltb s 64 h)
    go (no n) = rw (has_high 64 x s hx (omega arith), and-false)

pub union_lt : (x y : ℕ) → x < 2 ^ 64 → y < 2 ^ 64 → union_of x y < 2 ^ 64
unfolding union_of
union_lt x y hx hy = or_lt 64 x y hx hy

pub without_lt : (x y : ℕ) → x < 2 ^ 64 → without_of x y < 2 ^ 64
unfolding without_of
without_lt x y hx = let h = and_le_l x (2 ^ 64 - 1 - y) in omega arith

pub insert_lt : (x s : ℕ) → x < 2 ^ 64 → insert_of x s < 2 ^ 64
unfolding insert_of
insert_lt x s hx = go (dec_lt s 64)
  where
    go : Dec (s < 64) → ifb (ltb s 64) (bit_or x (2 ^ s)) x < 2 ^ 64
    go (yes h) = rw (lt-ltb s 64 h) (or_lt 64 x (2 ^ s) hx (pow-lt h))
    go (no n) = rw (le-ltb s 64 (omega arith)) hx

pub remove_lt : (x s : ℕ) → x < 2 ^ 64 → remove_of x s < 2 ^ 64
unfolding remove_of
remove_lt x s hx =
    if_cases (λ (y : ℕ). y < 2 ^ 64) (ltb s 64) _ _
    (λ e. let h = and_le_l x (2 ^ 64 - 1 - 2 ^ s) in omega arith) (λ e. hx)

-- two sets with the same seats are equal
pub same_seats : (x y : ℕ) → x < 2 ^ 64 → y < 2 ^ 64 → ((s : ℕ) → s < 64 → has x s ≡ has y s) → x ≡ y
unfolding has
same_seats x y hx hy h = bit_ext x y (λ s. go s (dec_lt s 64))
  where
    go : (s : ℕ) → Dec (s < 64) → bit x s ≡ bit y s
    go s (yes l) = same_digit (bit x s) (bit y s) (bit_lt x s) (bit_lt y s) (h s l)
    go s (no n) = bit_high 64 s x hx (omega arith) ∙ sym (bit_high 64 s y hy (omega arith))

-- joining and leaving the same seats once more changes nothing
pub joined_again : (x joining leaving : ℕ) → x < 2 ^ 64 → joining < 2 ^ 64 → leaving < 2 ^ 64
    → without_of (union_of (without_of (union_of x joining) leaving) joining) leaving
    ≡ without_of (union_of x joining) leaving
joined_again x joining leaving hx hj hl =
    same_seats _ _ (without_lt _ leaving (union_lt once joining below hj)) below
    (λ s h. rw (
      has_without (union_of once joining) leaving s h hl,
      has_union once joining s,
      has_without (union_of x joining) leaving s h hl,
      has_union x joining s,
    )
    (again (has x s) (has joining s) (has leaving s)))
  where
    once : ℕ
    once = without_of (union_of x joining) leaving

    below : once < 2 ^ 64
    below = without_lt _ leaving (union_lt x joining hx hj)

    again : (a b c : Bool) → ((a || b) && not c || b) && not c ≡ (a || b) && not c
    again true b true = and-false b
    again true b false = refl
    again false true true = refl
    again false true false = refl
    again false false true = refl
    again false false false = refl
