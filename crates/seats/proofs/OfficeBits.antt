-- For offices: what its functions compute, with shifts, masks and counts of digits, is what the definitions say.
use mathlib.Core.Path.{◌≡◌, refl, sym, ap, ◌∙◌}
use mathlib.Core.Bool.{Bool, true, false, not, ◌&&◌, true≢false}
use Prim.Native.Nat.{ℕ, ◌*◌, ◌%◌, ◌^◌, ◌≤◌, ◌<◌}
use native.Mathlib.Omega.{arith}
use native.Mathlib.Decide.{dec_lt}
use lib.Dec.{eqb, lit<}
use lib.Bits.{bit_and, and_le_l, and_zero_r}
use lib.Count.{ones, ones-le, count_trailing_zeros, trailing_le}
use lib.Pow.{shl_exact}
use mir.Syntax.{w8}
use mir.Val.{Fits}
use borrow.Author.Tests.{eq-eqb, ne_eqb, lt-ltb, le-ltb}
use Rattle.seats.specs.Seats.{has}
use Rattle.seats.proofs.Laws.{has_and, has_empty, same_seats}
use Rattle.seats.specs.Offices.{office_of, seats_of, serves, offices_of, touched}
use Rattle.seats.proofs.OfficeLaws.{has_seats, seat_serves, serves_seat, serves_below}
use Rattle.seats.proofs.Counts.{count_ones}

pub office_seats : (o : ℕ) → o < 16 → 15 * 2 ^ (4 * o) % 2 ^ 64 ≡ seats_of o
unfolding seats_of
office_seats o h = rw (lt-ltb o 16 h) (shl_exact 4 (4 * o) 64 (lit< tt) (omega arith))

pub office_above : (o : ℕ) → 16 ≤ o → 0 ≡ seats_of o
unfolding seats_of
office_above o h = rw (le-ltb o 16 h)

-- a set shares a seat with an office's seats exactly when the office is one of its offices
shares_none : (x o : ℕ) → x < 2 ^ 64 → serves x o ≡ false → bit_and x (seats_of o) ≡ 0
shares_none x o hx e = go (dec_lt o 16)
  where
    both : (s : ℕ) → (t : Bool) → has x s ≡ t → t && eqb (office_of s) o ≡ false
    both s false q = refl
    both s true q = ne_eqb (office_of s) o (λ r. true≢false (sym (seat_serves x s q) ∙ ap (serves x) r ∙ e))

    go : Dec (o < 16) → bit_and x (seats_of o) ≡ 0
    go (yes l) =
        let le = and_le_l x (seats_of o) in
        same_seats (bit_and x (seats_of o)) 0 (omega arith) (lit< tt)
        (λ s h. has_and x (seats_of o) s ∙ ap (λ (b : Bool). has x s && b) (has_seats o s l) ∙ both s (has x s) refl
        ∙ sym (has_empty s))
    go (no n) = ap (bit_and x) (sym (office_above o (omega arith))) ∙ and_zero_r x

shares_some : (x o : ℕ) → x < 2 ^ 64 → serves x o ≡ true → bit_and x (seats_of o) ≡ 0 → ⊥
shares_some x o hx e z =
    let w = serves_seat x o e in
    let l = serves_below x o hx e in
    let q : has (bit_and x (seats_of o)) w.0 ≡ true =
    has_and x (seats_of o) w.0 ∙ rw (w.2, has_seats o w.0 l, w.1, eq-eqb o o refl) in
    true≢false (sym q ∙ ap (λ (n : ℕ). has n w.0) z ∙ has_empty w.0)

pub shares : (x o m : ℕ) → x < 2 ^ 64 → m ≡ seats_of o → not (eqb (bit_and x m) 0) ≡ serves x o
shares x o m hx q = rw q (go (serves x o) refl)
  where
    go : (t : Bool) → serves x o ≡ t → not (eqb (bit_and x (seats_of o)) 0) ≡ t
    go true e = ap not (ne_eqb (bit_and x (seats_of o)) 0 (shares_some x o hx e))
    go false e = ap not (eq-eqb (bit_and x (seats_of o)) 0 (shares_none x o hx e))

-- the offices with their ones are what is asked
pub with_ones : (x b : ℕ) → b ≡ offices_of x → record { bits = b; count = ones b } ≡ touched x
with_ones x b e = rw (e, count_ones x)

-- a count of digits fits a byte
pub ones_fit : (x : ℕ) → x < 2 ^ 64 → Fits w8 (ones x)
ones_fit x h = omega (arith, ones-le 64 x h)

pub trailing_fit : (b : ℕ) → Fits w8 (count_trailing_zeros 16 b)
trailing_fit b = omega (arith, trailing_le 16 b)
