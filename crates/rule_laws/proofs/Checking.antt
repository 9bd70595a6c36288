-- Checks 6 to 10 and 19, which ask for no state, in front of 11 and 12.
use mathlib.Core.Path.{◌≡◌, refl, sym, ◌∙◌}
use mathlib.Core.Bool.{false}
use Prim.Native.Nat.{ℕ, ◌<◌}
use native.Mathlib.Omega.{arith}
use native.Mathlib.Decide.{ℕ_discrete}
use lib.Dec.{eqb, ltb}
use borrow.Author.Tests.{ltb-false, ne_eqb}
use Rattle.laws.proofs.Checks.{first_none, first_append}
use Rattle.laws.proofs.Fin.{or_l}
use Rattle.laws.specs.Upd.{ifb}
use Rattle.records.specs.declared.Proposal.{Proposal}
use Rattle.rules.specs.State.{State}
use Rattle.laws.specs.Checks.{first_of}
use Rattle.laws.specs.Lists.{Every, none, more}
use Rattle.rules.specs.Refusals.{Event, a_report, a_proposal, wrong_sender, form_checks, form_refusal, state_checks}
use Rattle.rules.specs.Refusals.{proposal_checks, refusal_of}

-- no number of theirs is 0, which says that none applies
pub form_numbers : (office : ℕ) (p : Proposal) → Every (λ c. eqb c.number 0 ≡ false) (form_checks office p)
form_numbers office p = more refl (more refl (more refl (more refl (more refl (more refl none)))))

-- who passes check 6 is an office
pub sender_office : (office : ℕ) (p : Proposal) → wrong_sender office p ≡ false → p.sender < 16
unfolding wrong_sender
sender_office office p e =
    let h = ltb-false 15 p.sender (or_l (ltb 15 p.sender) (eqb p.sender office) e) in omega arith

pub form_sender : (office : ℕ) (p : Proposal) → first_of (form_checks office p) ≡ 0 → p.sender < 16
form_sender office p z = sender_office office p ((first_none (wrong_sender office p) 5 _).0 z).0

module _ (s : State) (p : Proposal) where
  abbrev form : ℕ
  form = first_of (form_checks s.own p)

  split : first_of (proposal_checks s p) ≡ ifb (eqb form 0) (first_of (state_checks s p)) form
  unfolding proposal_checks
  split = first_append (form_checks s.own p) (state_checks s p) (form_numbers s.own p)

  -- where none of them applies, 11 and 12 decide
  pub form_passed : form ≡ 0 → first_of (proposal_checks s p) ≡ first_of (state_checks s p)
  form_passed z = rw (split, z)

  form_decides : (form ≡ 0 → ⊥) → first_of (proposal_checks s p) ≡ form
  form_decides n = rw (split, ne_eqb form 0 n)

-- the same of an event: the first of theirs decides, where there is one
pub form_first : (s : State) (e : Event) → (form_refusal s.own e ≡ 0 → ⊥) → refusal_of s e ≡ form_refusal s.own e
form_first s (a_report r) n = absurd (n refl)
form_first s (a_proposal p) n = form_decides s p n

-- what is not refused at a state passes its reading for the own office
pub own_form : (s : State) (e : Event) → refusal_of s e ≡ 0 → form_refusal s.own e ≡ 0
own_form s e z = go (ℕ_discrete (form_refusal s.own e) 0)
  where
    go : Dec (form_refusal s.own e ≡ 0) → form_refusal s.own e ≡ 0
    go (yes f) = f
    go (no n) = absurd (n (sym (form_first s e n) ∙ z))
