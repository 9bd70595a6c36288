-- Below n: all, some, the largest, sums; a test by cases.
use mathlib.Core.Path.{◌≡◌, refl, sym, ap, ◌∙◌}
use mathlib.Core.Bool.{Bool, true, false, ◌&&◌, ◌||◌, not, and-true}
use mathlib.Core.Logic.{◌⊎◌, inl, inr, ◌↔◌}
use Prim.Native.Nat.{ℕ, zero, suc, ◌+◌, ◌*◌, ◌≤◌, ◌<◌, max}
use native.Mathlib.Omega.{arith}
use native.Mathlib.Numerals.{add-one}
use native.Mathlib.Decide.{ℕ_discrete, dec_lt}
use lib.Dec.{ltb, leb, eqb}
use borrow.Author.Tests.{ltb-true, ltb-false, leb-true, leb-false, eqb-true, eqb-false, not-true, not-false, lt-ltb}
use borrow.Author.Tests.{le-ltb, le-leb, lt-leb, eq-eqb, ne_eqb}
use Rattle.laws.specs.Upd.{upd, ifb}
use Rattle.laws.proofs.Upd.{upd_same, upd_other, upd_cases}
use Rattle.laws.specs.Fin.{allb, anyb, largest, sum}

-- P holds of a choice if it does on both sides
pub if_cases {ℓ} : {A : Type 0} (P : A → Type ℓ) (t : Bool) (a b : A) → (t ≡ true → P a) → (t ≡ false → P b)
    → P (ifb t a b)
if_cases P true a b f g = f refl
if_cases P false a b f g = g refl

pub if_le : (t : Bool) (a b c : ℕ) → a ≤ c → b ≤ c → ifb t a b ≤ c
if_le t a b c x y = if_cases (λ (v : ℕ). v ≤ c) t a b (λ _. x) (λ _. y)

pub if_same : {A : Type 0} (t : Bool) (a : A) → ifb t a a ≡ a
if_same true a = refl
if_same false a = refl

-- what both and neither say of the parts
pub and_l : (a b : Bool) → a && b ≡ true → a ≡ true
and_l true b e = refl
and_l false b e = e

pub and_r : (a b : Bool) → a && b ≡ true → b ≡ true
and_r true b e = e
and_r false b e = let z : false ≡ true = e in cc

pub and_in : (a b : Bool) → a ≡ true → b ≡ true → a && b ≡ true
and_in true b e f = f
and_in false b e f = e

pub or_l : (a b : Bool) → a || b ≡ false → a ≡ false
or_l true b e = e
or_l false b e = refl

pub or_r : (a b : Bool) → a || b ≡ false → b ≡ false
or_r true b e = let z : true ≡ false = e in cc
or_r false b e = e

pub or_out : (a b : Bool) → a ≡ false → b ≡ false → a || b ≡ false
or_out true b e f = e
or_out false b e f = f

pub or_in : (a b : Bool) → b ≡ true → a || b ≡ true
or_in true b e = refl
or_in false b e = e

pub or_cases : (a b : Bool) → a || b ≡ true → (a ≡ true) ⊎ (b ≡ true)
or_cases true b e = inl refl
or_cases false b e = inr e

pub true_false : (t : Bool) → t ≡ true → t ≡ false → ⊥
true_false t e f = let z : ◌≡◌ {A = ℕ} 0 1 = cc in omega arith

pub allb_out : (n : ℕ) (p : ℕ → Bool) → allb n p ≡ true → (k : ℕ) → k < n → p k ≡ true
unfolding allb
allb_out zero p e k h = absurd (omega arith)
allb_out (suc n) p e k h = go (ℕ_discrete k n) (allb_out n p (and_r (p n) (allb n p) e) k)
  where
    go : Dec (k ≡ n) → (k < n → p k ≡ true) → p k ≡ true
    go (yes q) ih = rw q (and_l (p n) (allb n p) e)
    go (no q) ih = ih (omega arith)

pub allb_in : (n : ℕ) (p : ℕ → Bool) → ((k : ℕ) → k < n → p k ≡ true) → allb n p ≡ true
unfolding allb
allb_in zero p h = refl
allb_in (suc n) p h = and_in (p n) (allb n p) (h n (omega arith)) (allb_in n p (λ k l. h k (omega arith)))

pub allb_ext : (n : ℕ) (p q : ℕ → Bool) → ((k : ℕ) → k < n → p k ≡ q k) → allb n p ≡ allb n q
unfolding allb
allb_ext zero p q h = refl
allb_ext (suc n) p q h = let a = h n (omega arith) in let b = allb_ext n p q (λ k l. h k (omega arith)) in cc

pub anyb_in : (n : ℕ) (p : ℕ → Bool) (k : ℕ) → k < n → p k ≡ true → anyb n p ≡ true
unfolding anyb
anyb_in zero p k h e = absurd (omega arith)
anyb_in (suc n) p k h e = go (p n) refl (ℕ_discrete k n) (anyb_in n p k)
  where
    go : (t : Bool) → p n ≡ t → Dec (k ≡ n) → (k < n → p k ≡ true → anyb n p ≡ true) → t || anyb n p ≡ true
    go true q d ih = refl
    go false q (yes z) ih = let w = ap p z in cc
    go false q (no z) ih = ih (omega arith) e

-- a witness
pub anyb_out : (n : ℕ) (p : ℕ → Bool) → anyb n p ≡ true → (k : ℕ) × (k < n) × (p k ≡ true)
unfolding anyb
anyb_out zero p e = absurd (true_false false e refl)
anyb_out (suc n) p e = go (p n) refl e (anyb_out n p)
  where
    go : (t : Bool) → p n ≡ t → t || anyb n p ≡ true → (anyb n p ≡ true → (k : ℕ) × (k < n) × (p k ≡ true))
        → (k : ℕ) × (k < suc n) × (p k ≡ true)
    go true q e ih = (n, omega arith, q)
    go false q e ih = let w = ih e in (w.0, omega arith, w.2)

pub anyb_none : (n : ℕ) (p : ℕ → Bool) → anyb n p ≡ false → (k : ℕ) → k < n → p k ≡ false
anyb_none n p e k h = go (p k) refl
  where
    go : (t : Bool) → p k ≡ t → p k ≡ false
    go false q = q
    go true q = absurd (true_false (anyb n p) (anyb_in n p k h q) e)

pub none_anyb : (n : ℕ) (p : ℕ → Bool) → ((k : ℕ) → k < n → p k ≡ false) → anyb n p ≡ false
unfolding anyb
none_anyb zero p h = refl
none_anyb (suc n) p h = or_out (p n) (anyb n p) (h n (omega arith)) (none_anyb n p (λ k l. h k (omega arith)))

-- tests as facts, for `simp`: a test that holds, and one that does not
pub and_iff : (a b : Bool) → (a && b ≡ true) ↔ ((a ≡ true) × (b ≡ true))
and_iff a b = (λ e. (and_l a b e, and_r a b e), λ h. and_in a b h.0 h.1)

pub or_iff : (a b : Bool) → (a || b ≡ false) ↔ ((a ≡ false) × (b ≡ false))
or_iff a b = (λ e. (or_l a b e, or_r a b e), λ h. or_out a b h.0 h.1)

pub not_true_iff : (a : Bool) → (not a ≡ true) ↔ (a ≡ false)
not_true_iff a = (not-true a, λ e. rw e)

pub not_false_iff : (a : Bool) → (not a ≡ false) ↔ (a ≡ true)
not_false_iff a = (not-false a, λ e. rw e)

pub leb_iff : (a b : ℕ) → (leb a b ≡ true) ↔ (a ≤ b)
leb_iff a b = (leb-true a b, le-leb a b)

pub leb_not_iff : (a b : ℕ) → (leb a b ≡ false) ↔ (b < a)
leb_not_iff a b = (leb-false a b, lt-leb a b)

pub ltb_iff : (a b : ℕ) → (ltb a b ≡ true) ↔ (a < b)
ltb_iff a b = (ltb-true a b, lt-ltb a b)

pub ltb_not_iff : (a b : ℕ) → (ltb a b ≡ false) ↔ (b ≤ a)
ltb_not_iff a b = (ltb-false a b, le-ltb a b)

pub eqb_iff : (a b : ℕ) → (eqb a b ≡ true) ↔ (a ≡ b)
eqb_iff a b = (eqb-true a b, eq-eqb a b)

pub eqb_not_iff : (a b : ℕ) → (eqb a b ≡ false) ↔ (a ≡ b → ⊥)
eqb_not_iff a b = (eqb-false a b, ne_eqb a b)

pub allb_iff : (n : ℕ) (p : ℕ → Bool) → (allb n p ≡ true) ↔ ((k : ℕ) → k < n → p k ≡ true)
allb_iff n p = (allb_out n p, allb_in n p)

pub anyb_iff : (n : ℕ) (p : ℕ → Bool) → (anyb n p ≡ false) ↔ ((k : ℕ) → k < n → p k ≡ false)
anyb_iff n p = (anyb_none n p, none_anyb n p)

pub ruleset as-facts = (
  and_iff,
  or_iff,
  not_true_iff,
  not_false_iff,
  leb_iff,
  leb_not_iff,
  ltb_iff,
  ltb_not_iff,
  eqb_iff,
  eqb_not_iff,
  allb_iff,
  anyb_iff,
)

-- it is one of them
pub largest_max : (n : ℕ) (f : ℕ → ℕ) → 0 < n → (k : ℕ) × (k < n) × (largest n f ≡ f k)
unfolding largest
largest_max zero f h = absurd (omega arith)
largest_max (suc zero) f h = (0, omega arith, omega arith)
largest_max (suc (suc n)) f h = go (largest_max (suc n) f (omega arith)) (dec_lt (largest (suc n) f) (f (suc n)))
  where
    go : ((k : ℕ) × (k < suc n) × (largest (suc n) f ≡ f k)) → Dec (largest (suc n) f < f (suc n))
        → (k : ℕ) × (k < suc (suc n)) × (max (f (suc n)) (largest (suc n) f) ≡ f k)
    go w (yes l) = (suc n, omega arith, omega arith)
    go w (no l) = let e = w.2 in (w.0, omega arith, omega arith)

-- each of them is at most the largest, and what each is at most, so is the largest
pub largest_le : (n : ℕ) (f : ℕ → ℕ) (k : ℕ) → k < n → f k ≤ largest n f
unfolding largest
largest_le zero f k h = absurd (omega arith)
largest_le (suc n) f k h = go (ℕ_discrete k n) (largest_le n f k)
  where
    go : Dec (k ≡ n) → (k < n → f k ≤ largest n f) → f k ≤ max (f n) (largest n f)
    go (yes e) ih = let w = ap f e in omega arith
    go (no e) ih = let w = ih (omega arith) in omega arith

pub largest_below : (n : ℕ) (f : ℕ → ℕ) (b : ℕ) → ((k : ℕ) → k < n → f k ≤ b) → largest n f ≤ b
unfolding largest
largest_below zero f b h = omega arith
largest_below (suc n) f b h = let a = h n (omega arith) in let c = largest_below n f b (λ k l. h k (omega arith)) in
    omega arith

pub largest_ext : (n : ℕ) (f g : ℕ → ℕ) → ((k : ℕ) → k < n → f k ≡ g k) → largest n f ≡ largest n g
unfolding largest
largest_ext zero f g h = refl
largest_ext (suc n) f g h = let a = h n (omega arith) in let b = largest_ext n f g (λ k l. h k (omega arith)) in cc

pub sum_ext : (n : ℕ) (f g : ℕ → ℕ) → ((k : ℕ) → k < n → f k ≡ g k) → sum n f ≡ sum n g
unfolding sum
sum_ext zero f g h = refl
sum_ext (suc n) f g h = let a = h n (omega arith) in let b = sum_ext n f g (λ k lt. h k (omega arith)) in omega arith

-- a sum is 0 only where each term is
pub sum_zero : (n : ℕ) (f : ℕ → ℕ) → sum n f ≡ 0 → (k : ℕ) → k < n → f k ≡ 0
unfolding sum
sum_zero zero f e k lt = absurd (omega arith)
sum_zero (suc n) f e k lt = go (ℕ_discrete k n) (sum_zero n f (omega arith) k)
  where
    go : Dec (k ≡ n) → (k < n → f k ≡ 0) → f k ≡ 0
    go (yes q) ih = let a : f k ≡ f n = ap f q in omega arith
    go (no q) ih = ih (omega arith)

pub sum_upd : (n : ℕ) (f : ℕ → ℕ) (i v : ℕ) → i < n → sum n (upd f i v) + f i ≡ sum n f + v
unfolding sum
sum_upd zero f i v h = absurd (omega arith)
sum_upd (suc n) f i v h = go (ℕ_discrete i n) (sum_upd n f i v)
  where
    go : Dec (i ≡ n) → (i < n → sum n (upd f i v) + f i ≡ sum n f + v)
        → upd f i v n + sum n (upd f i v) + f i ≡ f n + sum n f + v
    go (yes q) ih =
        let a : upd f i v n ≡ v = rw q (upd_same f n v) in
        let b : sum n (upd f i v) ≡ sum n f = sum_ext n (upd f i v) f (λ k lt. upd_other f i v k (λ e. omega arith)) in
        let c : f i ≡ f n = ap f q in
        omega arith
    go (no q) ih =
        let a = upd_other f i v n (λ e. q (sym e)) in
        let b = ih (omega arith) in
        omega arith

-- two sums that differ in one term
pub sum_one : (n : ℕ) (f g : ℕ → ℕ) (i : ℕ) → i < n → ((k : ℕ) → k < n → (k ≡ i → ⊥) → f k ≡ g k)
    → sum n f + g i ≡ sum n g + f i
sum_one n f g i h e =
    let a : sum n f ≡ sum n (upd g i (f i)) =
    sum_ext n f (upd g i (f i)) (λ k lt. upd_cases (λ (m v : ℕ). f m ≡ v) g i (f i) k refl (e k lt)) in
    let b = sum_upd n g i (f i) h in
    omega arith

pub sum_add : (n : ℕ) (f g : ℕ → ℕ) → sum n (λ k. f k + g k) ≡ sum n f + sum n g
unfolding sum
sum_add zero f g = refl
sum_add (suc n) f g = let a = sum_add n f g in omega arith

-- c for each that passes the test
pub sum_times : (n : ℕ) (t : ℕ → Bool) (c : ℕ) → sum n (λ k. ifb (t k) c 0) ≡ sum n (λ k. ifb (t k) 1 0) * c
unfolding sum
sum_times zero t c = omega arith
sum_times (suc n) t c = go (t n) (sum_times n t c)
  where
    go : (b : Bool) → sum n (λ k. ifb (t k) c 0) ≡ sum n (λ k. ifb (t k) 1 0) * c
        → ifb b c 0 + sum n (λ k. ifb (t k) c 0) ≡ (ifb b 1 0 + sum n (λ k. ifb (t k) 1 0)) * c
    go true e = omega arith
    go false e = omega arith

-- one passes exactly where the count is not 0
pub any_count : (n : ℕ) (t : ℕ → Bool) → anyb n t ≡ ltb 0 (sum n (λ k. ifb (t k) 1 0))
unfolding anyb sum
any_count zero t = refl
any_count (suc n) t = go (t n) (any_count n t)
  where
    go : (b : Bool) → anyb n t ≡ ltb 0 (sum n (λ k. ifb (t k) 1 0))
        → b || anyb n t ≡ ltb 0 (ifb b 1 0 + sum n (λ k. ifb (t k) 1 0))
    go true e = sym (lt-ltb 0 (1 + sum n (λ k. ifb (t k) 1 0)) (omega arith))
    go false e = let z : 0 + sum n (λ k. ifb (t k) 1 0) ≡ sum n (λ k. ifb (t k) 1 0) = omega arith in rw z e

pub count_le : (n : ℕ) (t : ℕ → Bool) → sum n (λ k. ifb (t k) 1 0) ≤ n
unfolding sum
count_le zero t = omega arith
count_le (suc n) t = let a = count_le n t in let b = if_le (t n) 1 0 1 (omega arith) (omega arith) in omega arith

-- without one that passes, the count is one less
pub count_without : (n : ℕ) (t : ℕ → Bool) (i : ℕ) → i < n → t i ≡ true
    → sum n (λ k. ifb (t k && not (eqb k i)) 1 0) + 1 ≡ sum n (λ k. ifb (t k) 1 0)
count_without n t i h e =
    let z = sum_one n (λ k. ifb (t k && not (eqb k i)) 1 0) (λ k. ifb (t k) 1 0) i h other in
    let a : ifb {A = ℕ} (t i) 1 0 ≡ 1 = rw e in
    let b : ifb {A = ℕ} (t i && not (eqb i i)) 1 0 ≡ 0 = rw (e, eq-eqb i i refl) in
    omega arith
  where
    other : (k : ℕ) → k < n → (k ≡ i → ⊥) → ifb {A = ℕ} (t k && not (eqb k i)) 1 0 ≡ ifb (t k) 1 0
    other k lt q = rw (ne_eqb k i q) (ap (λ (b : Bool). ifb {A = ℕ} b 1 0) (and-true (t k)))

pub sum_mono : (n : ℕ) (f g : ℕ → ℕ) → ((k : ℕ) → k < n → f k ≤ g k) → sum n f ≤ sum n g
unfolding sum
sum_mono zero f g h = omega arith
sum_mono (suc n) f g h = let a = h n (omega arith) in let b = sum_mono n f g (λ k lt. h k (omega arith)) in omega arith

-- the last place below m at which a sequence changes, where it ends otherwise than it began
pub last_change : (f : ℕ → ℕ) (m : ℕ) → (f m ≡ f 0 → ⊥)
    → (n : ℕ) × (n < m) × (f (n + 1) ≡ f n → ⊥) × ((k : ℕ) → n < k → k < m → f (k + 1) ≡ f k)
last_change f zero h = absurd (h refl)
last_change f (suc m) h = go (ℕ_discrete (f (suc m)) (f m)) (last_change f m)
  where
    Last : ℕ → Type 0
    Last j = (n : ℕ) × (n < j) × (f (n + 1) ≡ f n → ⊥) × ((k : ℕ) → n < k → k < j → f (k + 1) ≡ f k)

    same : (k : ℕ) → k ≡ m → f (suc m) ≡ f m → f (k + 1) ≡ f k
    same k q e = rw (q, add-one) e

    go : Dec (f (suc m) ≡ f m) → ((f m ≡ f 0 → ⊥) → Last m) → Last (suc m)
    go (no d) ih = (m, omega arith, rw add-one d, λ k a b. absurd (omega arith))
    go (yes e) ih =
        let c = ih (λ z. h (e ∙ z)) in
        let l = c.1 in
        (c.0, omega arith, c.2, λ k a b. stays k a b (c.3 k a) (ℕ_discrete k m))
      where
        stays : {n : ℕ} (k : ℕ) → n < k → k < suc m → (k < m → f (k + 1) ≡ f k) → Dec (k ≡ m) → f (k + 1) ≡ f k
        stays k a b h (yes q) = same k q e
        stays k a b h (no q) = h (omega arith)
