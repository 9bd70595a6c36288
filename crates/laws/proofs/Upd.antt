-- A function changed at one place: there, elsewhere, and by cases.
use mathlib.Core.Path.{◌≡◌, refl, ap}
use Prim.Native.Nat.{ℕ}
use native.Mathlib.Decide.{ℕ_discrete}
use lib.Dec.{eqb}
use borrow.Author.Tests.{eq-eqb, ne_eqb}
use Rattle.laws.specs.Upd.{ifb, upd}

module _ {A : Type 0} where
  pub upd_same : (f : ℕ → A) (i : ℕ) (v : A) → upd f i v i ≡ v
  unfolding upd
  upd_same f i v = rw (eq-eqb i i refl)

  pub upd_other : (f : ℕ → A) (i : ℕ) (v : A) (j : ℕ) → (j ≡ i → ⊥) → upd f i v j ≡ f j
  unfolding upd
  upd_other f i v j n = rw (ne_eqb j i n)

  -- by cases: at i, and elsewhere
  pub upd_cases {ℓ} : (P : ℕ → A → Type ℓ) (f : ℕ → A) (i : ℕ) (v : A) (j : ℕ) → P i v → ((j ≡ i → ⊥) → P j (f j))
      → P j (upd f i v j)
  upd_cases P f i v j at other = go (ℕ_discrete j i)
    where
      go : Dec (j ≡ i) → P j (upd f i v j)
      go (yes e) = rw (e, upd_same) at
      go (no n) = rw (upd_other f i v j n) (other n)

  -- what stands there already changes nothing
  pub upd_self : (f : ℕ → A) (i : ℕ) → upd f i (f i) ≡ f
  upd_self f i = λ t j. upd_cases (λ (j : ℕ) (v : A). v ≡ f j) f i (f i) j refl (λ n. refl) t

  -- two functions that agree at a place agree there after the same update
  pub upd_agree : (f g : ℕ → A) (i : ℕ) (v : A) (j : ℕ) → f j ≡ g j → upd f i v j ≡ upd g i v j
  unfolding upd
  upd_agree f g i v j e = ap (ifb (eqb j i) v) e

-- one place of two functions, by cases
pub upd_both : {A B : Type 0} (P : A → B → Type 0) (f : ℕ → A) (g : ℕ → B) (i : ℕ) (v : A) (w : B) (j : ℕ) → P v w
    → P (f j) (g j)
    → P (upd f i v j) (upd g i w j)
upd_both P f g i v w j at other = go (ℕ_discrete j i)
  where
    go : Dec (j ≡ i) → P (upd f i v j) (upd g i w j)
    go (yes e) = rw (e, upd_same f i v, upd_same g i w) at
    go (no n) = rw (upd_other f i v j n, upd_other g i w j n) other
