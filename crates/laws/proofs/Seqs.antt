-- Runs of stores, and tables in parts.
use mathlib.Core.Path.{◌≡◌, refl, sym, ap, ◌∙◌}
use mathlib.Core.List.{List, [], ◌∷◌, ◌++◌, append-nil}
use Prim.Native.Nat.{ℕ, zero, suc, ◌+◌, ◌≤◌, ◌<◌}
use native.Mathlib.Nat.{le_of_lt}
use native.Mathlib.Numerals.{add-one}
use native.Mathlib.Omega.{arith}
use lib.ListN.{length, get_or, set, take, drop, length-set, drop_of_length-le}
use lib.Seq.{sets, sets-eq, take-suc, length-take-le, get_or-set_same, get_or-set_other, set_comm, take-add, drop_at}
use native.Mathlib.Decide.{dec_lt}
use Rattle.laws.specs.Tab.{tab}
use Rattle.laws.proofs.Tab.{tab_ext, filled}

module _ {A : Type 0} where
  -- a run of stores: before it, after it, outside it, in it
  pub get_or_sets_low : (vs l : List A) (i j : ℕ) (d : A) → j < i → get_or (sets l i vs) j d ≡ get_or l j d
  get_or_sets_low [] l i j d h = refl
  get_or_sets_low (a ∷ vs) l i j d h = get_or_sets_low vs (set l i a) (suc i) j d (omega arith)
      ∙ get_or-set_other l i j a d (λ e. omega arith)

  pub get_or_sets_high : (vs l : List A) (i j : ℕ) (d : A) → i + length vs ≤ j → get_or (sets l i vs) j d ≡ get_or l j d
  get_or_sets_high [] l i j d h = refl
  get_or_sets_high (a ∷ vs) l i j d h = get_or_sets_high vs (set l i a) (suc i) j d (omega arith)
      ∙ get_or-set_other l i j a d (λ e. omega arith)

  pub get_or_sets_out : (vs l : List A) (i j : ℕ) (d : A) → (i ≤ j → j < i + length vs → ⊥)
      → get_or (sets l i vs) j d ≡ get_or l j d
  get_or_sets_out vs l i j d h = go (dec_lt j i) (dec_lt j (i + length vs))
    where
      go : Dec (j < i) → Dec (j < i + length vs) → get_or (sets l i vs) j d ≡ get_or l j d
      go (yes a) b = get_or_sets_low vs l i j d a
      go (no a) (yes b) = absurd (h (omega arith) b)
      go (no a) (no b) = get_or_sets_high vs l i j d (omega arith)

  pub get_or_sets_at : (vs l : List A) (i k : ℕ) (d : A) → k < length vs → i + length vs ≤ length l
      → get_or (sets l i vs) (i + k) d ≡ get_or vs k d
  get_or_sets_at [] l i k d h m = absurd (omega arith)
  get_or_sets_at (a ∷ vs) l i zero d h m =
      let e : i + 0 ≡ i = omega arith in
      rw e (get_or_sets_low vs (set l i a) (suc i) i d (omega arith) ∙ get_or-set_same l i a d (omega arith))
  get_or_sets_at (a ∷ vs) l i (suc k) d h m =
      let e : i + suc k ≡ suc i + k = omega arith in
      let n = length-set l i a in
      rw e (get_or_sets_at vs (set l i a) (suc i) k d (omega arith) (omega arith))

  -- writes one after another are one write
  pub sets_append : (l : List A) (i : ℕ) (a b : List A) → sets l i (a ++ b) ≡ sets (sets l i a) (i + length a) b
  sets_append l i [] b = let e : i + 0 ≡ i = omega arith in rw e
  sets_append l i (x ∷ a) b = let e : i + suc (length a) ≡ suc i + length a = omega arith in
      rw e (sets_append (set l i x) (suc i) a b)

  -- a store behind what is written may come first
  pub set_behind : (l : List A) (i k : ℕ) (x : A) (a : List A) → i + length a ≤ k
      → set (sets l i a) k x ≡ sets (set l k x) i a
  set_behind l i k x [] h = refl
  set_behind l i k x (y ∷ a) h =
      set_behind (set l i y) (suc i) k x a (omega arith)
      ∙ ap (λ (m : List A). sets m (suc i) a) (set_comm l i k y x (λ e. omega arith))

  -- two stores and a write, from a place on
  pub sets_two : (l vs : List A) (i : ℕ) (a b : A)
      → sets (set (set l i a) (i + 1) b) (i + 2) vs ≡ sets l i (a ∷ b ∷ vs)
  sets_two l vs i a b =
      let e : i + 1 ≡ suc i = omega arith in
      let f : i + 2 ≡ suc (suc i) = omega arith in
      rw (e, f)

  -- a write as long as the list
  pub sets_all : (vs l : List A) → length l ≡ length vs → sets l 0 vs ≡ vs
  sets_all vs l e =
      let h : length l ≤ 0 + length vs = omega arith in
      sets-eq vs l 0 (omega arith) ∙ rw (drop_of_length-le l h) (append-nil vs)

  -- one turn of a loop that stores a's entries from a place on
  pub store_turn : (l a : List A) (at k : ℕ) (d : A) → k < length a
      → set (sets l at (take k a)) (at + k) (get_or a k d) ≡ sets l at (take (k + 1) a)
  store_turn l a at k d h =
      let n : length (take k a) ≡ k = length-take-le k a (le_of_lt h) in
      let e : at + k ≡ at + length (take k a) = omega arith in
      rw (e, add-one, take-suc a k d h) (sym (sets_append l at (take k a) (get_or a k d ∷ [])))

  pub drop_take : (k m : ℕ) (l : List A) → k ≤ length l → drop k (take (k + m) l) ≡ take m (drop k l)
  drop_take k m l h = rw (take-add k m l) (drop_at (take k l) (take m (drop k l)) k (length-take-le k l h))

  -- a table in two parts
  pub tab_add : (a b : ℕ) (f : ℕ → A) → tab (a + b) f ≡ tab a f ++ tab b (λ k. f (a + k))
  unfolding tab
  tab_add zero b f =
      let e : 0 + b ≡ b = omega arith in
      rw e (tab_ext b f (λ k. f (0 + k)) (λ k h. let q : k ≡ 0 + k = omega arith in ap f q))
  tab_add (suc a) b f =
      let e : suc a + b ≡ suc (a + b) = omega arith in
      rw e (ap (λ (l : List A). f 0 ∷ l) (tab_add a b (λ k. f (suc k))
      ∙ ap (λ (l : List A). tab a (λ k. f (suc k)) ++ l)
      (tab_ext b (λ k. f (suc (a + k))) (λ k. f (suc a + k)) (λ k h. let q : suc (a + k) ≡ suc a + k = omega arith in
      ap f q))))

  pub tab_self : (n : ℕ) (d : A) (l : List A) → length l ≡ n → l ≡ tab n (λ k. get_or l k d)
  tab_self n d l e = filled n (λ k. get_or l k d) d l e (λ k h. refl)
