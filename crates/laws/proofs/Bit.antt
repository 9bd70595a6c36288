-- Laws of the binary digits of a number.
use mathlib.Core.Path.{◌≡◌, refl, sym, ap, ◌∙◌}
use Prim.Native.Nat.{ℕ, zero, suc, ◌+◌, ◌-◌, ◌*◌, ◌/◌, ◌%◌, ◌^◌, ◌≤◌, ◌<◌, min, max}
use native.Mathlib.Nat.{pow-suc, div-div-eq-div-mul, mul_comm}
use native.Mathlib.Omega.{arith}
use lib.Arith.{bin_ind}
use lib.Bits.{bit_or, bit_and, or_step, and_step, shifted_half, shifted_even, or_comm, or_add_and, and_le_r}
use lib.Pow.{shl-shr}
use Rattle.laws.specs.Bit.{bit}

or_half : (a b : ℕ) → bit_or a b / 2 ≡ bit_or (a / 2) (b / 2)
or_half a b = ap (λ (n : ℕ). n / 2) (or_step a b) ∙ omega arith

or_odd : (a b : ℕ) → bit_or a b % 2 ≡ max (a % 2) (b % 2)
or_odd a b = ap (λ (n : ℕ). n % 2) (or_step a b) ∙ omega arith

and_half : (a b : ℕ) → bit_and a b / 2 ≡ bit_and (a / 2) (b / 2)
and_half a b = ap (λ (n : ℕ). n / 2) (and_step a b) ∙ omega arith

and_odd : (a b : ℕ) → bit_and a b % 2 ≡ min (a % 2) (b % 2)
and_odd a b = ap (λ (n : ℕ). n % 2) (and_step a b) ∙ omega arith

-- digit t of (a | b), of (a & b), of !a
pub bit_or_lem : (a b t : ℕ) → bit (bit_or a b) t ≡ max (bit a t) (bit b t)
unfolding bit
bit_or_lem a b zero = or_odd a b
bit_or_lem a b (suc t) = ap (λ (n : ℕ). bit n t) (or_half a b) ∙ bit_or_lem (a / 2) (b / 2) t

pub bit_and_lem : (a b t : ℕ) → bit (bit_and a b) t ≡ min (bit a t) (bit b t)
unfolding bit
bit_and_lem a b zero = and_odd a b
bit_and_lem a b (suc t) = ap (λ (n : ℕ). bit n t) (and_half a b) ∙ bit_and_lem (a / 2) (b / 2) t

pub bit_not : (k t a : ℕ) → t < k → a < 2 ^ k → bit (2 ^ k - 1 - a) t ≡ 1 - bit a t
unfolding bit
bit_not zero t a h ha = absurd (omega arith)
bit_not (suc k) zero a h ha = omega arith
bit_not (suc k) (suc t) a h ha =
    let e : (2 ^ suc k - 1 - a) / 2 ≡ 2 ^ k - 1 - a / 2 = omega arith in
    ap (λ (n : ℕ). bit n t) e ∙ bit_not k t (a / 2) (omega arith) (omega arith)

pub bit_lt : (x t : ℕ) → bit x t < 2
unfolding bit
bit_lt x zero = omega arith
bit_lt x (suc t) = bit_lt (x / 2) t

pub bit_zero : (t : ℕ) → bit 0 t ≡ 0
unfolding bit
bit_zero zero = refl
bit_zero (suc t) = bit_zero t

pub bit_pow_same : (s : ℕ) → bit (2 ^ s) s ≡ 1
unfolding bit
bit_pow_same zero = refl
bit_pow_same (suc s) =
    let e : 2 ^ suc s / 2 ≡ 2 ^ s = omega arith in
    ap (λ (n : ℕ). bit n s) e ∙ bit_pow_same s

pub bit_pow_other : (s t : ℕ) → (t ≡ s → ⊥) → bit (2 ^ s) t ≡ 0
unfolding bit
bit_pow_other zero zero h = absurd (h refl)
bit_pow_other zero (suc t) h = bit_zero t
bit_pow_other (suc s) zero h = omega arith
bit_pow_other (suc s) (suc t) h =
    let e : 2 ^ suc s / 2 ≡ 2 ^ s = omega arith in
    ap (λ (n : ℕ). bit n t) e ∙ bit_pow_other s t (λ p. h (ap suc p))

-- the code's own form
pub bit_shr : (t x : ℕ) → bit x t ≡ x / 2 ^ t % 2
unfolding bit
bit_shr zero x = ap (λ (n : ℕ). n % 2) (omega arith)
bit_shr (suc t) x =
    bit_shr t (x / 2)
    ∙ ap (λ (n : ℕ). n % 2) (div-div-eq-div-mul x 2 (2 ^ t)
    ∙ ap (λ (n : ℕ). x / n) (mul_comm 2 (2 ^ t) ∙ sym (pow-suc 2 t)))

no_bits : (b : ℕ) → ((t : ℕ) → bit b t ≡ 0) → b ≡ 0
unfolding bit
no_bits =
    bin_ind (λ (n : ℕ). ((t : ℕ) → bit n t ≡ 0) → n ≡ 0) (λ h. refl)
    (λ n ih h. let e : n / 2 ≡ 0 = ih (λ t. h (suc t)) in let z : n % 2 ≡ 0 = h 0 in omega arith)

-- two numbers with the same digits are equal
pub bit_ext : (a b : ℕ) → ((t : ℕ) → bit a t ≡ bit b t) → a ≡ b
unfolding bit
bit_ext =
    bin_ind (λ (n : ℕ). (b : ℕ) → ((t : ℕ) → bit n t ≡ bit b t) → n ≡ b)
    (λ b h. sym (no_bits b (λ t. sym (h t) ∙ bit_zero t)))
    (λ n ih b h. let e : n / 2 ≡ b / 2 = ih (b / 2) (λ t. h (suc t)) in let z : n % 2 ≡ b % 2 = h 0 in omega arith)

-- digit t of (x >> k)
pub bit_shift : (k x t : ℕ) → bit (x / 2 ^ k) t ≡ bit x (k + t)
unfolding bit
bit_shift zero x t = let a : x / 1 ≡ x = omega arith in let b : t ≡ 0 + t = omega arith in
    ap (λ (n : ℕ). bit n t) a ∙ ap (bit x) b
bit_shift (suc k) x t =
    let a : x / 2 ^ suc k ≡ x / 2 / 2 ^ k =
    sym (div-div-eq-div-mul x 2 (2 ^ k) ∙ ap (λ (n : ℕ). x / n) (mul_comm 2 (2 ^ k) ∙ sym (pow-suc 2 k))) in
    let b : suc (k + t) ≡ suc k + t = omega arith in
    ap (λ (n : ℕ). bit n t) a ∙ bit_shift k (x / 2) t ∙ ap (bit x) b

-- a number below 2 ^ k has no digit from k on
pub bit_high : (k t x : ℕ) → x < 2 ^ k → k ≤ t → bit x t ≡ 0
unfolding bit
bit_high zero t x h le = let z : x ≡ 0 = omega arith in ap (λ (n : ℕ). bit n t) z ∙ bit_zero t
bit_high (suc k) zero x h le = absurd (omega arith)
bit_high (suc k) (suc t) x h le = bit_high k t (x / 2) (omega arith) (omega arith)

-- digit t of (x << k), where nothing falls off
pub bit_shl : (k x t : ℕ) → bit (x * 2 ^ k) (k + t) ≡ bit x t
bit_shl k x t = sym (bit_shift k (x * 2 ^ k) t) ∙ ap (λ (n : ℕ). bit n t) (shl-shr x k)

pub bit_shl_low : (k x t : ℕ) → t < k → bit (x * 2 ^ k) t ≡ 0
unfolding bit
bit_shl_low zero x t h = absurd (omega arith)
bit_shl_low (suc k) x zero h = shifted_even x k
bit_shl_low (suc k) x (suc t) h = ap (λ (n : ℕ). bit n t) (shifted_half x k) ∙ bit_shl_low k x t (omega arith)

-- a number is at most what it makes with another
pub or_above : (a b : ℕ) → b ≤ bit_or a b
or_above a b = let e = or_add_and b a in let l = and_le_r b a in let c = or_comm a b in omega arith
