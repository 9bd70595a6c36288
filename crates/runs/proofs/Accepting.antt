-- What an office answers: where only the room or the ceiling can refuse, and where a proposal is not of the net view.
use mathlib.Core.Path.{◌≡◌, refl, sym, ap, ◌∙◌}
use mathlib.Core.Bool.{Bool, true, false}
use mathlib.Core.Logic.{◌⊎◌, inl, inr}
use mathlib.Core.List.{[]}
use Prim.Native.Nat.{ℕ, ◌<◌}
use lib.Dec.{ltb}
use borrow.Author.Tests.{ltb-false}
use Rattle.records.specs.declared.Proposal.{Proposal}
use Rattle.rules.specs.State.{State}
use Rattle.rules.specs.Rules.{Outcome}
use Rattle.rules.specs.Refusals.{full_room, well_formed, Event, a_proposal, form_refusal, read_number, refusal_of}
use Rattle.rules.specs.Refusals.{rule_of, accepting, act_of, act_with, Result, take_of}
use Rattle.rule_laws.proofs.Checking.{own_form}
use Rattle.rule_laws.proofs.Steps.{Refused, Takes, Passes, well_facts, check_facts, reading_facts}
use Rattle.rule_laws.proofs.Steps.{take_accepts, take_cases}
use Rattle.runs.specs.World.{World, proposal_answer}
use Rattle.runs.proofs.Arrays.{Barred}
use Rattle.runs.proofs.Proposals.{other_members}

-- read for the own office
module _ (office : ℕ) (s : State) (e : Event) (room : ℕ) (own : s.own ≡ office) where
  -- where nothing but the room or the ceiling can refuse
  accepts_or_barred : well_formed s ≡ true → refusal_of s e ≡ 0
      → Takes office s e room ⊎ Barred (take_of office s e room)
  unfolding take_of act_with act_of accepting
  accepts_or_barred w z = go (ltb room full_room) refl (well_formed (rule_of s e).state) refl
    where
      known : office < 16
      known = rw (sym own) (well_facts s w).own

      form : form_refusal office e ≡ 0
      form = rw (sym own) (own_form s e z)

      read : read_number office 0 e ≡ 0
      read = (reading_facts office 0 e).1 (known, refl, form)

      go : (t : Bool) → ltb room full_room ≡ t → (u : Bool) → well_formed (rule_of s e).state ≡ u
          → Takes office s e room ⊎ Barred (take_of office s e room)
      go true l u x = inr (inl (rw (read, w, l)))
      go false l true x =
          inl (record {
            known = known;
            form = form;
            well = w;
            fits = ltb-false room full_room l;
            acts = record { passes = z; within = x };
          })
      go false l false x = inr (inr (rw (read, w, l, z, x)))

  pub accepted_or_barred : well_formed s ≡ true → refusal_of s e ≡ 0
      → Takes office s e room ⊎ (Refused s (take_of office s e room) × Barred (take_of office s e room))
  accepted_or_barred w z = go (take_cases office s e room) (accepts_or_barred w z)
    where
      go : Refused s (take_of office s e room) ⊎ Takes office s e room
          → Takes office s e room ⊎ Barred (take_of office s e room)
          → Takes office s e room ⊎ (Refused s (take_of office s e room) × Barred (take_of office s e room))
      go (inr a) x = inl a
      go (inl r) (inl a) = inl a
      go (inl r) (inr x) = inr (r, x)

-- a proposal that cannot be one of the net view's members: nothing is written
pub unheard : (w : World) (o room : ℕ) (p : Proposal)
    → ((q : Proposal) → Passes (w.state o) q → q.sender ≡ p.sender → q.members.bits ≡ (w.state o).net.bits → ⊥)
    → (proposal_answer w o p room).written ≡ []
unfolding proposal_answer
unheard w o room p n = go (take_cases o s (a_proposal p) room)
  where
    s : State
    s = w.state o

    go : Refused s (take_of o s (a_proposal p) room) ⊎ Takes o s (a_proposal p) room
        → (take_of o s (a_proposal p) room).written ≡ []
    go (inl f) = ap (λ (z : Result). z.written) f.is
    go (inr f) =
        ap (λ (z : Result). z.written) (take_accepts o s (a_proposal p) room f)
        ∙ ap (λ (z : Outcome). z.written) (other_members s p (n p (check_facts s p f.acts.passes) refl))
