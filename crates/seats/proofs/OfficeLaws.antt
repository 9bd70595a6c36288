-- For offices: what holds of the offices of a set: their seats, and the sixteen-bit set of them.
use mathlib.Core.Path.{◌≡◌, refl, sym, ap, ◌∙◌}
use mathlib.Core.Bool.{Bool, true, false, ◌&&◌, ◌||◌, and-true, and-false, or-true, or-false}
use mathlib.Core.Logic.{⊎_elim}
use Prim.Native.Nat.{ℕ, zero, suc, ◌+◌, ◌-◌, ◌*◌, ◌/◌, ◌%◌, ◌^◌, ◌<◌}
use native.Mathlib.Omega.{arith}
use native.Mathlib.Decide.{ℕ_discrete, dec_lt}
use native.Mathlib.Nat.{one-mul}
use lib.Dec.{eqb, lit<}
use lib.Bits.{bit_or, or_shifted_r, or_zero_r}
use borrow.Author.Tests.{eq-eqb, ne_eqb, eqb-true, lt-ltb}
use Rattle.laws.specs.Bit.{bit}
use Rattle.laws.proofs.Bit.{bit_high, bit_shl, bit_shl_low}
use Rattle.laws.specs.Fin.{allb}
use Rattle.laws.proofs.Fin.{allb_out, if_cases, or_cases}
use Rattle.laws.specs.Upd.{ifb}
use Rattle.seats.specs.Seats.{has, union_of}
use Rattle.seats.proofs.Laws.{has_union, has_one, has_empty, has_high, has_below}
use Rattle.seats.specs.Offices.{office_of, seats_of, serves, packed, offices_of}

-- an office's four seats are those that belong to it
four_ones : (r : ℕ) → r < 4 → bit 15 r ≡ 1
unfolding allb bit
four_ones r h = eqb-true _ 1 (allb_out 4 (λ k. eqb (bit 15 k) 1) refl r h)

pub has_seats : (o s : ℕ) → o < 16 → has (seats_of o) s ≡ eqb (office_of s) o
unfolding has seats_of office_of
has_seats o s h = rw (lt-ltb o 16 h) (go (dec_lt s (4 * o)))
  where
    at : (r : ℕ) → 4 * o + r ≡ s → Dec (r < 4) → eqb (bit (15 * 2 ^ (4 * o)) (4 * o + r)) 1 ≡ eqb (s / 4) o
    at r e (yes l) = rw (bit_shl (4 * o) 15 r, four_ones r l) (sym (eq-eqb (s / 4) o (omega arith)))
    at r e (no n) = rw (bit_shl (4 * o) 15 r, bit_high 4 r 15 (lit< tt) (omega arith))
        (sym (ne_eqb (s / 4) o (λ q. omega arith)))

    go : Dec (s < 4 * o) → eqb (bit (15 * 2 ^ (4 * o)) s) 1 ≡ eqb (s / 4) o
    go (yes l) = rw (bit_shl_low (4 * o) 15 s l) (sym (ne_eqb (s / 4) o (λ q. omega arith)))
    go (no n) = let e : 4 * o + (s - 4 * o) ≡ s = omega arith in rw e at (at (s - 4 * o) e (dec_lt (s - 4 * o) 4))

-- an office is an office of a set exactly when one of its seats is in it
seat_of : (x o r : ℕ) → r < 4 → has x (4 * o + r) ≡ true → serves x o ≡ true
unfolding serves
seat_of x o zero h e = let q : 4 * o + 0 ≡ 4 * o = omega arith in let f : has x (4 * o) ≡ true = rw q at e in rw f
seat_of x o (suc zero) h e = rw (e, or-true)
seat_of x o (suc (suc zero)) h e = rw (e, or-true)
seat_of x o (suc (suc (suc zero))) h e = rw (e, or-true)
seat_of x o (suc (suc (suc (suc r)))) h e = absurd (omega arith)

pub seat_serves : (x s : ℕ) → has x s ≡ true → serves x (office_of s) ≡ true
unfolding office_of
seat_serves x s e =
    let q : s ≡ 4 * (s / 4) + s % 4 = omega arith in
    seat_of x (s / 4) (s % 4) (omega arith) (ap (has x) (sym q) ∙ e)

pub serves_seat : (x o : ℕ) → serves x o ≡ true → (s : ℕ) × (office_of s ≡ o) × (has x s ≡ true)
unfolding serves office_of
serves_seat x o e =
    ⊎_elim
    (λ l. ⊎_elim
    (λ m. ⊎_elim (λ a. (4 * o, omega arith, a)) (λ b. (4 * o + 1, omega arith, b))
    (or_cases (has x (4 * o)) (has x (4 * o + 1)) m))
    (λ c. (4 * o + 2, omega arith, c))
    (or_cases (has x (4 * o) || has x (4 * o + 1)) (has x (4 * o + 2)) l))
    (λ d. (4 * o + 3, omega arith, d))
    (or_cases (has x (4 * o) || has x (4 * o + 1) || has x (4 * o + 2)) (has x (4 * o + 3)) e)

pub serves_below : (x o : ℕ) → x < 2 ^ 64 → serves x o ≡ true → o < 16
unfolding office_of
serves_below x o hx e =
    let w = serves_seat x o e in
    let h = has_below x w.0 hx w.2 in
    let q = w.1 in
    omega arith

-- bit k of a packed number
pub packed_lt : (n : ℕ) (p : ℕ → Bool) → packed n p < 2 ^ n
unfolding packed
packed_lt zero p = lit< tt
packed_lt (suc n) p =
    let h = packed_lt n p in
    if_cases (λ (d : ℕ). packed n p + d < 2 ^ suc n) (p n) (2 ^ n) 0 (λ e. omega arith) (λ e. omega arith)

packed_step : (n : ℕ) (p : ℕ → Bool) → packed (suc n) p ≡ union_of (packed n p) (ifb (p n) (2 ^ n) 0)
unfolding packed union_of
packed_step n p =
    let a = packed n p in
    if_cases (λ (d : ℕ). packed n p + d ≡ bit_or (packed n p) d) (p n) (2 ^ n) 0
    (λ e. let q : bit_or a (2 ^ n) ≡ 2 ^ n + a = rw one-mul at (or_shifted_r 1 n a (packed_lt n p)) in omega arith)
    (λ e. let q = or_zero_r (packed n p) in omega arith)

has_flag : (t : Bool) (n k : ℕ) → has (ifb t (2 ^ n) 0) k ≡ t && eqb k n
has_flag true n k = has_one n k
has_flag false n k = has_empty k

pub has_packed : (n : ℕ) (p : ℕ → Bool) (k : ℕ) → k < n → has (packed n p) k ≡ p k
has_packed zero p k h = absurd (omega arith)
has_packed (suc n) p k h =
    ap (λ (x : ℕ). has x k) (packed_step n p) ∙ has_union (packed n p) (ifb (p n) (2 ^ n) 0) k
    ∙ ap (λ (b : Bool). has (packed n p) k || b) (has_flag (p n) n k) ∙ go (ℕ_discrete k n) (has_packed n p k)
  where
    go : Dec (k ≡ n) → (k < n → has (packed n p) k ≡ p k) → has (packed n p) k || (p n && eqb k n) ≡ p k
    go (yes e) ih = rw (e, has_high n (packed n p) n (packed_lt n p) (omega arith), eq-eqb n n refl, and-true)
    go (no q) ih = rw (ne_eqb k n q, and-false, or-false) (ih (omega arith))

-- tests that agree below n make one number
pub packed_same : (n : ℕ) (p q : ℕ → Bool) → ((k : ℕ) → k < n → p k ≡ q k) → packed n p ≡ packed n q
unfolding packed
packed_same zero p q e = refl
packed_same (suc n) p q e = rw (e n (omega arith), packed_same n p q (λ k l. e k (omega arith)))

pub has_offices : (x o : ℕ) → o < 16 → has (offices_of x) o ≡ serves x o
unfolding offices_of
has_offices x o h = has_packed 16 (serves x) o h

pub offices_lt : (x : ℕ) → offices_of x < 2 ^ 16
unfolding offices_of
offices_lt x = packed_lt 16 (serves x)
