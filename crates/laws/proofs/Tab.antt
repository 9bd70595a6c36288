-- Tables: what a loop over an array makes.
use mathlib.Core.Path.{◌≡◌, refl, sym, ap, ◌∙◌}
use mathlib.Core.List.{List}
use Prim.Native.Nat.{ℕ, zero, suc, ◌+◌, ◌<◌}
use native.Mathlib.Omega.{arith}
use lib.ListN.{length, get_or, set, length-set}
use lib.Seq.{ext_get_or, get_or-set_same, get_or-set_other}
use native.Mathlib.Decide.{ℕ_discrete}
use Rattle.laws.specs.Tab.{tab}

module _ {A : Type 0} where
  pub length_tab : (n : ℕ) (f : ℕ → A) → length (tab n f) ≡ n
  unfolding tab
  length_tab zero f = refl
  length_tab (suc n) f = ap suc (length_tab n (λ k. f (suc k)))

  pub get_or_tab : (n : ℕ) (f : ℕ → A) (k : ℕ) (d : A) → k < n → get_or (tab n f) k d ≡ f k
  unfolding tab
  get_or_tab zero f k d h = absurd (omega arith)
  get_or_tab (suc n) f zero d h = refl
  get_or_tab (suc n) f (suc k) d h = get_or_tab n (λ k. f (suc k)) k d (omega arith)

  pub tab_ext : (n : ℕ) (f h : ℕ → A) → ((o : ℕ) → o < n → f o ≡ h o) → tab n f ≡ tab n h
  unfolding tab
  tab_ext zero f h e = refl
  tab_ext (suc n) f h e =
      let a = e 0 (omega arith) in
      let b = tab_ext n (λ k. f (suc k)) (λ k. h (suc k)) (λ k l. e (suc k) (omega arith)) in
      cc

  -- what a loop that stores f i at i has done when i is n
  pub filled : (n : ℕ) (f : ℕ → A) (d : A) (l : List A) → length l ≡ n → ((k : ℕ) → k < n → get_or l k d ≡ f k)
      → l ≡ tab n f
  filled n f d l e h =
      ext_get_or d l (tab n f) (e ∙ sym (length_tab n f)) (λ k lt. h k (rw (← e) lt)
      ∙ sym (get_or_tab n f k d (rw (← e) lt)))

  -- one more store
  pub fill_step : (f : ℕ → A) (d : A) (l : List A) (i : ℕ) → i < length l → ((k : ℕ) → k < i → get_or l k d ≡ f k)
      → (k : ℕ) → k < i + 1 → get_or (set l i (f i)) k d ≡ f k
  fill_step f d l i lt h k kl = go (ℕ_discrete k i)
    where
      go : Dec (k ≡ i) → get_or (set l i (f i)) k d ≡ f k
      go (yes e) = rw e (get_or-set_same l i (f i) d lt)
      go (no n) = get_or-set_other l i k (f i) d n ∙ h k (omega arith)

  -- a table stored to at one place
  pub set_tab : (n : ℕ) (f h : ℕ → A) (i : ℕ) → i < n → ((k : ℕ) → (k ≡ i → ⊥) → f k ≡ h k)
      → set (tab n f) i (h i) ≡ tab n h
  set_tab n f h i lt e =
      filled n h (h i) (set (tab n f) i (h i)) (length-set (tab n f) i (h i) ∙ length_tab n f)
      (λ k l. go k l (ℕ_discrete k i))
    where
      go : (k : ℕ) → k < n → Dec (k ≡ i) → get_or (set (tab n f) i (h i)) k (h i) ≡ h k
      go k l (yes q) = let s = length_tab n f in rw q (get_or-set_same (tab n f) i (h i) (h i) (omega arith))
      go k l (no q) = get_or-set_other (tab n f) i k (h i) (h i) q ∙ get_or_tab n f k (h i) l ∙ e k q
