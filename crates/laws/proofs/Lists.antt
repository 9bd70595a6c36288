-- Runs of a step over a list, and what holds of each entry.
use mathlib.Core.Path.{◌≡◌, refl, sym}
use mathlib.Core.Logic.{◌⊎◌, inl, inr}
use mathlib.Core.List.Memᴰ
use mathlib.Core.List.{List, [], ◌∷◌, ◌++◌, map, Memᴰ}
use mathlib.Core.List.{flatten, append_assoc}
use Prim.Native.Nat.{ℕ, zero, suc}
use lib.ListN.{take}
use Rattle.laws.specs.Lists.{runs, Every, none, more}

-- lists entry by entry: an equal entry, then the rest. Where the entries are computed, each is compared by itself
infixr 20 ◌then◌
pub ◌then◌ : {A : Type 0} {a b : A} {l m : List A} → a ≡ b → l ≡ m → a ∷ l ≡ b ∷ m
e then f = cc

module _ {W E : Type 0} (step : W → E → W) where
  pub runs_append : (w : W) (a b : List E) → runs step w (a ++ b) ≡ runs step (runs step w a) b
  unfolding runs
  runs_append w [] b = refl
  runs_append w (e ∷ a) b = runs_append (step w e) a b

  -- an invariant along a run
  pub runs_keep : (P : W → Type 0) → ((w : W) (e : E) → P w → P (step w e)) → (w : W) (es : List E) → P w
      → P (runs step w es)
  unfolding runs
  runs_keep P h w [] p = p
  runs_keep P h w (e ∷ es) p = runs_keep P h (step w e) es (h w e p)

-- the entries of two lists of lists, end to end
pub flatten_append : {A : Type 0} (a b : List (List A)) → flatten (a ++ b) ≡ flatten a ++ flatten b
unfolding flatten
flatten_append [] b = refl
flatten_append (x ∷ a) b = rw (flatten_append a b) (sym (append_assoc x (flatten a) (flatten b)))

module _ {A : Type 0} {R : A → Type 0} where
  pub every_append : {a b : List A} → Every R a → Every R b → Every R (a ++ b)
  every_append none f = f
  every_append (more r e) f = more r (every_append e f)

  pub every_split : (a : List A) {b : List A} → Every R (a ++ b) → Every R a × Every R b
  every_split [] e = (none, e)
  every_split (x ∷ a) (more r e) = let w = every_split a e in (more r w.0, w.1)

  pub every_map : {S : A → Type 0} {l : List A} → ((a : A) → R a → S a) → Every R l → Every S l
  every_map f none = none
  every_map f (more r e) = more (f _ r) (every_map f e)

  pub every_head : {a : A} {l : List A} → Every R (a ∷ l) → R a
  every_head (more r e) = r

  pub every_tail : {a : A} {l : List A} → Every R (a ∷ l) → Every R l
  every_tail (more r e) = e

  pub every_take : (n : ℕ) {l : List A} → Every R l → Every R (take n l)
  every_take zero e = none
  every_take (suc n) none = none
  every_take (suc n) (more r e) = more r (every_take n e)

  pub every_mapped : {B : Type 0} (f : B → A) {l : List B} → Every (λ b. R (f b)) l → Every R (map f l)
  every_mapped f none = none
  every_mapped f (more r e) = more r (every_mapped f e)

  -- of each that is in the list
  pub every_in : (l : List A) → ((a : A) → Memᴰ a l → R a) → Every R l
  every_in [] h = none
  every_in (a ∷ l) h = more (h a (Memᴰ.head refl)) (every_in l (λ b m. h b (Memᴰ.tail m)))

  -- so of one that is in the list
  pub every_at : {a : A} (l : List A) → Every R l → Memᴰ a l → R a
  every_at [] e m = absurd (Memᴰ.not-nil m)
  every_at {a} (b ∷ l) e m = go (every_at l (every_tail e)) (Memᴰ.cases_cons m)
    where
      go : (Memᴰ a l → R a) → (a ≡ b) ⊎ Memᴰ a l → R a
      go later (inl q) = rw q (every_head e)
      go later (inr q) = later q
