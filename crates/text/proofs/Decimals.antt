-- For the module digits: a decimal number is the last digits of it, as many as it has.
use mathlib.Core.Path.{◌≡◌, refl, sym, ap, ◌∙◌}
use mathlib.Core.List.{[], ◌∷◌}
use Prim.Native.Nat.{ℕ, zero, suc, ◌+◌, ◌*◌, ◌/◌, ◌%◌, ◌^◌, ◌≤◌, ◌<◌}
use native.Mathlib.Omega.{arith}
use native.Mathlib.Nat.{pow-succ', one-le-pow}
use lib.ListN.{length, length-append}
use borrow.Author.Tests.{lt-ltb, le-ltb}
use Rattle.text.specs.Digits.{decimal_in, decimal, last_digits}
use Rattle.text.specs.Put.{DigitCount}

pub digits_length : (k n : ℕ) → length (last_digits k n) ≡ k
unfolding last_digits
digits_length zero n = refl
digits_length (suc k) n = let e = digits_length k (n / 10) in simp length-append (omega arith)

one_digit : (f n : ℕ) → n < 10 → decimal_in f n ≡ (48 + n) ∷ []
unfolding decimal_in
one_digit zero n h = refl
one_digit (suc f) n h = rw (lt-ltb n 10 h)

-- 10 to the k is above k
above : (k : ℕ) → k < 10 ^ k
above zero = omega arith
above (suc k) = let h = above k in omega (arith, pow-succ' 10 k)

-- k digits after the first
digits_in : (k f n : ℕ) → k ≤ f → n < 10 ^ suc k → (0 < k → 10 ^ k ≤ n) → decimal_in f n ≡ last_digits (suc k) n
unfolding last_digits decimal_in
digits_in zero f n h l g =
    let l' : n < 10 = omega arith in
    let e : n % 10 ≡ n = omega arith in
    one_digit f n l' ∙ ap (λ (m : ℕ). (48 + m) ∷ []) (sym e)
digits_in (suc k) zero n h l g = absurd (omega arith)
digits_in (suc k) (suc f) n h l g =
    let p : 10 ^ suc k ≤ n = g (omega arith) in
    let q : 1 ≤ 10 ^ k = one-le-pow k 10 (omega arith) in
    let a : 10 ^ suc k ≡ 10 * 10 ^ k = pow-succ' 10 k in
    let b : 10 ^ suc (suc k) ≡ 10 * 10 ^ suc k = pow-succ' 10 (suc k) in
    let t : 10 ≤ n = omega arith in
    let u : n / 10 < 10 ^ suc k = omega arith in
    let v : 10 ^ k ≤ n / 10 = omega arith in
    rw (le-ltb n 10 t, digits_in k f (n / 10) (omega arith) u (λ z. v))

pub decimal_digits : (n k : ℕ) → DigitCount n k → decimal n ≡ last_digits k n
unfolding decimal
decimal_digits n k h = rw h.is (digits_in h.more n n few h.below h.above)
  where
    few : h.more ≤ n
    few = go h.more h.above
      where
        go : (m : ℕ) → (0 < m → 10 ^ m ≤ n) → m ≤ n
        go zero g = omega arith
        go (suc m) g = let a = g (omega arith) in let b = above (suc m) in omega arith

pub decimal_one : (n : ℕ) → n < 10 → decimal n ≡ (48 + n) ∷ []
unfolding decimal
decimal_one n h = one_digit n n h
