-- The lowest below n that passes a test: it passes, and none below it does. Going through all n finds the same; so do
-- trailing zeros.
use mathlib.Core.Path.{◌≡◌, refl, sym, ap, ◌∙◌}
use mathlib.Core.Bool.{Bool, true, false, not, true≢false}
use Prim.Native.Nat.{ℕ, zero, suc, ◌-◌, ◌/◌, ◌%◌, ◌^◌, ◌≤◌, ◌<◌, min}
use native.Mathlib.Omega.{arith}
use native.Mathlib.Decide.{dec_lt, ℕ_discrete}
use native.Mathlib.Nat.{mod-eq_of_lt, zero-min}
use borrow.Author.Tests.{eq-eqb, ne_eqb}
use lib.Dec.{eqb}
use lib.Bits.{bit_and, and_step, and_self, and_mask}
use lib.Count.{count_trailing_zeros, under}
use Rattle.laws.specs.Bit.{bit}
use Rattle.laws.specs.Fin.{allb}
use Rattle.laws.specs.Lowest.{lowest_below, lowest_of_all}
use Rattle.laws.specs.Upd.{ifb}
use Rattle.laws.proofs.Fin.{if_cases, allb_in}
use Rattle.laws.proofs.Loops.{all_fails}

pub lowest_le : (n : ℕ) (p : ℕ → Bool) → lowest_below n p ≤ n
unfolding lowest_below
lowest_le zero p = omega arith
lowest_le (suc n) p =
    let h = lowest_le n (λ k. p (suc k)) in
    if_cases (λ (v : ℕ). v ≤ suc n) (p 0) _ _ (λ e. omega arith) (λ e. omega arith)

pub lowest_passes : (n : ℕ) (p : ℕ → Bool) → lowest_below n p < n → p (lowest_below n p) ≡ true
unfolding lowest_below
lowest_passes zero p h = absurd (omega arith)
lowest_passes (suc n) p h = go (p 0) refl h (lowest_passes n (λ k. p (suc k)))
  where
    next : ℕ
    next = lowest_below n (λ k. p (suc k))

    go : (t : Bool) → p 0 ≡ t → ifb t 0 (suc next) < suc n → (next < n → p (suc next) ≡ true)
        → p (ifb t 0 (suc next)) ≡ true
    go true e l ih = e
    go false e l ih = ih (omega arith)

pub lowest_first : (n : ℕ) (p : ℕ → Bool) (k : ℕ) → k < lowest_below n p → p k ≡ false
unfolding lowest_below
lowest_first zero p k h = absurd (omega arith)
lowest_first (suc n) p k h = go (p 0) refl k h (lowest_first n (λ k. p (suc k)))
  where
    next : ℕ
    next = lowest_below n (λ k. p (suc k))

    go : (t : Bool) → p 0 ≡ t → (k : ℕ) → k < ifb t 0 (suc next) → ((k : ℕ) → k < next → p (suc k) ≡ false)
        → p k ≡ false
    go true e k l ih = absurd (omega arith)
    go false e zero l ih = e
    go false e (suc k) l ih = ih k (omega arith)

-- n where none passes
pub lowest_none : (n : ℕ) (p : ℕ → Bool) → ((k : ℕ) → k < n → p k ≡ false) → lowest_below n p ≡ n
lowest_none n p f = go (dec_lt (lowest_below n p) n)
  where
    go : Dec (lowest_below n p < n) → lowest_below n p ≡ n
    go (yes a) = absurd (true≢false (sym (lowest_passes n p a) ∙ f (lowest_below n p) a))
    go (no a) = let h = lowest_le n p in omega arith

-- a number that passes, with none below it, is the lowest
pub lowest_is : (n : ℕ) (p : ℕ → Bool) (k : ℕ) → k < n → p k ≡ true → ((j : ℕ) → j < k → p j ≡ false)
    → lowest_below n p ≡ k
lowest_is n p k l e f = go (dec_lt (lowest_below n p) k) (dec_lt k (lowest_below n p))
  where
    go : Dec (lowest_below n p < k) → Dec (k < lowest_below n p) → lowest_below n p ≡ k
    go (yes a) b = absurd (true≢false (sym (lowest_passes n p (omega arith)) ∙ f (lowest_below n p) a))
    go (no a) (yes b) = absurd (true≢false (sym e ∙ lowest_first n p k b))
    go (no a) (no b) = omega arith

-- where it is n, none passes
pub lowest_end : (n : ℕ) (p : ℕ → Bool) → lowest_below n p ≡ n → (k : ℕ) → k < n → p k ≡ false
lowest_end n p e k l = lowest_first n p k (omega arith)

pub none_lowest : (n : ℕ) (p : ℕ → Bool) → allb n (λ k. not (p k)) ≡ eqb (lowest_below n p) n
none_lowest n p = go (ℕ_discrete (lowest_below n p) n)
  where
    go : Dec (lowest_below n p ≡ n) → allb n (λ k. not (p k)) ≡ eqb (lowest_below n p) n
    go (yes e) = rw (eq-eqb _ _ e) (allb_in n _ (λ k l. rw (lowest_end n p e k l)))
    go (no e) =
        let h = lowest_le n p in
        let l : lowest_below n p < n = omega arith in
        rw (ne_eqb _ _ e) (all_fails n _ (lowest_below n p) l (rw (lowest_passes n p l)))

-- tests that agree below n have one lowest
pub lowest_same : (n : ℕ) (p q : ℕ → Bool) → ((k : ℕ) → k < n → p k ≡ q k) → lowest_below n p ≡ lowest_below n q
unfolding lowest_below
lowest_same zero p q e = refl
lowest_same (suc n) p q e =
    rw (e 0 (omega arith), lowest_same n (λ k. p (suc k)) (λ k. q (suc k)) (λ k l. e (suc k) (omega arith)))

-- going through all n finds the same
pub lowest_of_all_lem : (n : ℕ) (p : ℕ → Bool) → lowest_below n p ≡ lowest_of_all n p
unfolding lowest_below lowest_of_all
lowest_of_all_lem zero p = refl
lowest_of_all_lem (suc n) p = go (p 0) (lowest_of_all_lem n (λ k. p (suc k))) (lowest_le n (λ k. p (suc k)))
  where
    go : (t : Bool) → lowest_below n (λ k. p (suc k)) ≡ lowest_of_all n (λ k. p (suc k))
        → lowest_below n (λ k. p (suc k)) ≤ n
        → ifb t 0 (suc (lowest_below n (λ k. p (suc k)))) ≡ min (ifb t 0 (suc n)) (suc (lowest_of_all n (λ k. p (suc k))))
    go true e l = omega arith
    go false e l = omega arith

-- the zeros below the lowest digit that is set
pub trailing_lowest : (n x : ℕ) → count_trailing_zeros n x ≡ lowest_below n (λ t. eqb (bit x t) 1)
unfolding count_trailing_zeros lowest_below bit
trailing_lowest zero x = refl
trailing_lowest (suc n) x = go (x % 2) (omega arith) (trailing_lowest n (x / 2))
  where
    go : (r : ℕ) → r < 2 → count_trailing_zeros n (x / 2) ≡ lowest_below n (λ t. eqb (bit (x / 2) t) 1)
        → under r (count_trailing_zeros n (x / 2)) ≡ ifb (eqb r 1) 0 (suc (lowest_below n (λ t. eqb (bit (x / 2) t) 1)))
    go zero l e = ap suc e
    go (suc zero) l e = refl
    go (suc (suc r)) l e = absurd (omega arith)

half_mask : (n t : ℕ) → (2 ^ suc n - 1 - 2 ^ suc t) / 2 ≡ 2 ^ n - 1 - 2 ^ t
half_mask n t = omega arith

-- x & (x - 1) is x without its lowest digit that is set
pub and_less_one : (n x : ℕ) → x < 2 ^ n → (x ≡ 0 → ⊥)
    → bit_and x (x - 1) ≡ bit_and x (2 ^ n - 1 - 2 ^ count_trailing_zeros n x)
unfolding count_trailing_zeros
and_less_one zero x h some = absurd (omega arith)
and_less_one (suc n) x h some = go (x % 2) refl (and_less_one n (x / 2) (omega arith))
  where
    t : ℕ
    t = count_trailing_zeros n (x / 2)

    halves : (a b : ℕ) → bit_and (x / 2) ((x - 1) / 2) ≡ bit_and (x / 2) b → a / 2 ≡ b → min (x % 2) (a % 2) ≡ 0
        → bit_and x (x - 1) ≡ bit_and x a
    halves a b e f g =
        let p = and_step x (x - 1) in
        let q = and_step x a in
        let i : bit_and (x / 2) ((x - 1) / 2) ≡ bit_and (x / 2) (a / 2) = e ∙ ap (bit_and (x / 2)) (sym f) in
        omega arith

    go : (r : ℕ) → x % 2 ≡ r → ((x / 2 ≡ 0 → ⊥) → bit_and (x / 2) (x / 2 - 1) ≡ bit_and (x / 2) (2 ^ n - 1 - 2 ^ t))
        → bit_and x (x - 1) ≡ bit_and x (2 ^ suc n - 1 - 2 ^ under r t)
    go zero e ih =
        let z : (x - 1) / 2 ≡ x / 2 - 1 = omega arith in
        halves _ (2 ^ n - 1 - 2 ^ t) (rw z (ih (λ q. some (omega arith)))) (half_mask n t) (rw (e, zero-min))
    go (suc r) e ih =
        let z : (x - 1) / 2 ≡ x / 2 = omega arith in
        let m : x / 2 % 2 ^ n ≡ x / 2 = mod-eq_of_lt (omega arith) in
        halves _ (2 ^ n - 1) (rw z (and_self (x / 2) ∙ sym (and_mask (x / 2) n ∙ m))) (omega arith) (omega arith)
