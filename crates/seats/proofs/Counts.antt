-- For offices: the number of the offices of a set, and the lowest of them.
use mathlib.Core.Path.{◌≡◌, refl, sym, ◌∙◌}
use mathlib.Core.Bool.{Bool, true, false, ◌&&◌, not}
use Prim.Native.Nat.{ℕ, zero, suc, ◌+◌, ◌*◌, ◌^◌, ◌≤◌, ◌<◌}
use native.Mathlib.Omega.{arith}
use native.Mathlib.Decide.{dec_lt}
use lib.Dec.{eqb}
use lib.Count.{ones_in, ones, ones_cat, ones-le, count_trailing_zeros}
use Rattle.laws.specs.Fin.{sum}
use Rattle.laws.specs.Upd.{ifb}
use Rattle.laws.proofs.Fin.{count_without}
use Rattle.laws.proofs.Lowest.{lowest_le, lowest_passes, lowest_first, lowest_none, trailing_lowest}
use Rattle.seats.specs.Seats.{has}
use Rattle.seats.specs.Offices.{serves, packed, offices_of, count_of, lowest_of}
use Rattle.seats.proofs.Laws.{has_empty, has_high, same_seats}
use Rattle.seats.proofs.OfficeLaws.{packed_lt, offices_lt}

-- the number of the offices is a sum over the sixteen
pub count_sum : (x : ℕ) → count_of x ≡ sum 16 (λ o. ifb (serves x o) 1 0)
unfolding count_of
count_sum x = refl

-- and the ones of the sixteen-bit set
ones_packed : (n : ℕ) (p : ℕ → Bool) → ones (packed n p) ≡ sum n (λ k. ifb (p k) 1 0)
unfolding packed sum ones ones_in
ones_packed zero p = refl
ones_packed (suc n) p = go (p n) (ones_packed n p) (ones_cat n 1 (packed n p) (packed_lt n p))
  where
    go : (t : Bool) → ones (packed n p) ≡ sum n (λ k. ifb (p k) 1 0)
        → ones (1 * 2 ^ n + packed n p) ≡ ones 1 + ones (packed n p)
        → ones (packed n p + ifb t (2 ^ n) 0) ≡ ifb t 1 0 + sum n (λ k. ifb (p k) 1 0)
    go true e c =
        let q : packed n p + 2 ^ n ≡ 1 * 2 ^ n + packed n p = omega arith in
        let o : ones 1 ≡ 1 = refl in
        rw q (omega (arith, o, c, e))
    go false e c =
        let q : packed n p + 0 ≡ packed n p = omega arith in
        let z : 0 + sum n (λ k. ifb (p k) 1 0) ≡ sum n (λ k. ifb (p k) 1 0) = omega arith in
        rw (q, z) e

pub count_ones : (x : ℕ) → ones (offices_of x) ≡ count_of x
unfolding offices_of count_of
count_ones x = ones_packed 16 (serves x)

pub count_le : (x : ℕ) → count_of x ≤ 16
count_le x = let a = ones-le 16 (offices_of x) (offices_lt x) in let b = count_ones x in omega arith

-- beside an office of the set there is one fewer
pub others_count : (x o : ℕ) → o < 16 → serves x o ≡ true
    → sum 16 (λ k. ifb (serves x k && not (eqb k o)) 1 0) + 1 ≡ count_of x
unfolding count_of
others_count x o h e = count_without 16 (serves x) o h e

-- the lowest office of a set is found by its trailing zeros
pub trailing_office : (b : ℕ) → count_trailing_zeros 16 b ≡ lowest_of b
unfolding lowest_of has
trailing_office b = trailing_lowest 16 b

-- it is in the set, no lower one is, and there is none only in the empty set
pub lowest_in_lem : (b : ℕ) → lowest_of b < 16 → has b (lowest_of b) ≡ true
unfolding lowest_of
lowest_in_lem b h = lowest_passes 16 (has b) h

pub lowest_at_most : (b : ℕ) → lowest_of b ≤ 16
unfolding lowest_of
lowest_at_most b = lowest_le 16 (has b)

pub none_lower : (b o : ℕ) → o < lowest_of b → has b o ≡ false
unfolding lowest_of
none_lower b o h = lowest_first 16 (has b) o h

pub lowest_empty : lowest_of 0 ≡ 16
unfolding lowest_of
lowest_empty = lowest_none 16 (has 0) (λ o h. has_empty o)

pub empty_lowest : (b : ℕ) → b < 2 ^ 16 → lowest_of b ≡ 16 → b ≡ 0
empty_lowest b h e = same_seats b 0 (omega arith) (omega arith) (λ s l. go s (dec_lt s 16) ∙ sym (has_empty s))
  where
    go : (s : ℕ) → Dec (s < 16) → has b s ≡ false
    go s (yes l) = none_lower b s (omega arith)
    go s (no n) = has_high 16 b s h (omega arith)
