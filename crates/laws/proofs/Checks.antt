-- Lists of checks: one of which none applies, one behind another, what holds of the first.
use mathlib.Core.Path.{◌≡◌, refl}
use mathlib.Core.Bool.{Bool, true, false, not}
use mathlib.Core.List.{List, [], ◌∷◌, ◌++◌}
use mathlib.Core.Logic.{◌↔◌}
use Prim.Native.Nat.{ℕ, suc}
use native.Mathlib.Omega.{arith}
use native.Mathlib.Decide.{ℕ_discrete}
use lib.Dec.{eqb}
use borrow.Author.Tests.{ne_eqb}
use Rattle.laws.specs.Checks.{Check, first_of}
use Rattle.laws.specs.Lists.{Every, none, more}
use Rattle.laws.specs.Upd.{ifb}
use Rattle.laws.proofs.Fin.{if_cases, true_false}

-- the first does not, and none of the rest
pub first_none : (t : Bool) (n r : ℕ) → (ifb t (suc n) r ≡ 0) ↔ ((t ≡ false) × (r ≡ 0))
first_none true n r = (λ e. absurd (omega arith), λ h. absurd (true_false true refl h.0))
first_none false n r = (λ e. (refl, e), λ h. h.1)

-- a reason whose number is found elsewhere, where 0 is none
pub no_reason : (n r : ℕ) → ifb (not (eqb n 0)) n r ≡ 0 → (n ≡ 0) × (r ≡ 0)
no_reason n r e = go (ℕ_discrete n 0)
  where
    go : Dec (n ≡ 0) → (n ≡ 0) × (r ≡ 0)
    go (yes z) = (z, rw z at e)
    go (no z) = absurd (z (rw (ne_eqb n 0 z) at e))

-- the first of two lists is that of the one in front, or, where none of it applies, of the one behind
pub first_append : (cs ds : List Check) → Every (λ c. eqb c.number 0 ≡ false) cs
    → first_of (cs ++ ds) ≡ ifb (eqb (first_of cs) 0) (first_of ds) (first_of cs)
first_append [] ds none = refl
first_append (c ∷ cs) ds (more n e) = go c.applies (first_append cs ds e)
  where
    Splits : ℕ → ℕ → Type 0
    Splits all front = all ≡ ifb (eqb front 0) (first_of ds) front

    go : (t : Bool) → Splits (first_of (cs ++ ds)) (first_of cs)
        → Splits (ifb t c.number (first_of (cs ++ ds))) (ifb t c.number (first_of cs))
    go true h = rw n
    go false h = h

-- what holds of 0, and of the number of each check that applies, holds of the first
pub first_by : (P : ℕ → Type 0) → P 0 → (cs : List Check) → Every (λ c. c.applies ≡ true → P c.number) cs
    → P (first_of cs)
first_by P z [] none = z
first_by P z (c ∷ cs) (more h e) = if_cases P c.applies c.number (first_of cs) h (λ f. first_by P z cs e)
