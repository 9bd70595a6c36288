-- Arrays of arrays: one place changed, and what stands there and elsewhere.
use mathlib.Core.Path.{◌≡◌, refl, sym, ap, ◌∙◌}
use Prim.Native.Nat.{ℕ}
use native.Mathlib.Decide.{ℕ_discrete}
use Rattle.laws.specs.Upd.{upd, upd2}
use Rattle.laws.proofs.Upd.{upd_same, upd_other, upd_cases}

module _ {A : Type 0} where
  pub upd2_cases {ℓ} : (P : ℕ → ℕ → A → Type ℓ) (f : ℕ → ℕ → A) (i j : ℕ) (v : A) (a b : ℕ)
      → P i j v → ((a ≡ i → b ≡ j → ⊥) → P a b (f a b)) → P a b (upd2 f i j v a b)
  upd2_cases P f i j v a b at other =
      upd_cases (λ (k : ℕ) (r : ℕ → A). ((k ≡ i → b ≡ j → ⊥) → P k b (f k b)) → P k b (r b)) f i (upd (f i) j v) a
      (λ o. upd_cases (λ (k : ℕ) (w : A). ((k ≡ j → ⊥) → P i k (f i k)) → P i k w) (f i) j v b (λ k. at) (λ n k. k n)
      (λ n. o (λ e. n)))
      (λ n o. o (λ e. absurd (n e)))
      other

  pub upd2_same : (f : ℕ → ℕ → A) (i j : ℕ) (v : A) → upd2 f i j v i j ≡ v
  upd2_same f i j v = rw (upd_same f i (upd (f i) j v), upd_same (f i) j v)

  pub upd2_other : (f : ℕ → ℕ → A) (i j : ℕ) (v : A) (a b : ℕ) → (a ≡ i → b ≡ j → ⊥) → upd2 f i j v a b ≡ f a b
  upd2_other f i j v a b =
      upd2_cases (λ (a b : ℕ) (x : A). (a ≡ i → b ≡ j → ⊥) → x ≡ f a b) f i j v a b (λ n. absurd (n refl refl))
      (λ n m. refl)

  -- beside another that agrees with it elsewhere
  pub upd2_agree : (f h : ℕ → ℕ → A) (i j : ℕ) (v w : A) (a b : ℕ) → v ≡ w → f a b ≡ h a b
      → upd2 f i j v a b ≡ upd2 h i j w a b
  upd2_agree f h i j v w a b e =
      upd2_cases (λ (a b : ℕ) (x : A). f a b ≡ h a b → x ≡ upd2 h i j w a b) f i j v a b
      (λ q. e ∙ sym (upd2_same h i j w)) (λ n q. q ∙ sym (upd2_other h i j w a b n))

  -- a row changed, and one place of it
  pub row_same : (f : ℕ → ℕ → A) (me : ℕ) (v : ℕ → A) (j : ℕ) → upd f me v me j ≡ v j
  row_same f me v j = ap (λ r. r j) (upd_same f me v)

  pub row_other : (f : ℕ → ℕ → A) (me : ℕ) (v : ℕ → A) (i j : ℕ) → (i ≡ me → ⊥) → upd f me v i j ≡ f i j
  row_other f me v i j n = ap (λ r. r j) (upd_other f me v i n)

-- at one place, and at the others
pub split : {P : ℕ → Type 0} (me : ℕ) → P me → ((i : ℕ) → (i ≡ me → ⊥) → P i) → (i : ℕ) → P i
split {P} me at other i = go (ℕ_discrete i me)
  where
    go : Dec (i ≡ me) → P i
    go (yes e) = rw e at
    go (no n) = other i n
