-- The exits of the step and of making a state: the number that each of them answers.
use mathlib.Core.Path.{◌≡◌, refl}
use mathlib.Core.Bool.{Bool, true, false}
use mathlib.Core.List.{List, []}
use Prim.Native.Nat.{ℕ, ◌≤◌, ◌<◌}
use native.Mathlib.Omega.{arith}
use native.Mathlib.Decide.{dec_lt}
use borrow.Author.Tests.{le-leb, lt-leb, ne_eqb}
use Rattle.laws.specs.Upd.{ifb}
use Rattle.records.specs.Layout.{report_mark, proposal_mark, report_length, proposal_length, check_own}
use Rattle.records.specs.Layout.{decode_report, decode_proposal}
use Rattle.records.proofs.CheckLaws.{own_mark}
use Rattle.rules.specs.State.{State}
use Rattle.rules.specs.Rules.{fresh}
use Rattle.rules.specs.Refusals.{well_formed, made_of, Event, a_report, a_proposal, event_of, refusal_of, rule_of}
use Rattle.rules.specs.Refusals.{accepting, act_of, all_bytes}
use Rattle.rule_laws.proofs.Steps.{fresh_well}

-- 1
module _ (o : ℕ) where
  pub made_0 : o ≤ 15 → made_of o ≡ record { refusal = 0; state = fresh o }
  unfolding made_of
  made_0 l = rw (le-leb o 15 l)

  pub made_1 : 15 < o → made_of o ≡ record { refusal = 1; state = fresh 0 }
  unfolding made_of
  made_1 l = rw (lt-leb o 15 l)

-- the state that is made passes check 2, also where the office is refused
pub made_passes : (office : ℕ) → well_formed (made_of office).state ≡ true
made_passes office = go (dec_lt 15 office)
  where
    go : Dec (15 < office) → well_formed (made_of office).state ≡ true
    go (yes l) = rw (made_1 office l) (fresh_well 0 (omega arith))
    go (no l) = rw (made_0 office (omega arith)) (fresh_well office (omega arith))

module _ (s : State) (e : Event) where
  -- 6 to 12 and 19
  pub act_checked : (refusal_of s e ≡ 0 → ⊥) → (act_of s e).refusal ≡ refusal_of s e
  unfolding act_of
  act_checked h = rw (ne_eqb (refusal_of s e) 0 h)

  -- 13
  pub act_passed : refusal_of s e ≡ 0 → (act_of s e).refusal ≡ ifb (well_formed (rule_of s e).state) 0 13
  unfolding act_of accepting
  act_passed z = rw z (go (well_formed (rule_of s e).state) refl)
    where
      go : (t : Bool) → well_formed (rule_of s e).state ≡ t
          → (accepting s (rule_of s e)).refusal ≡ ifb (well_formed (rule_of s e).state) 0 13
      go true w = rw w
      go false w = rw w

-- the event that bytes are, by their own checks
pub report_read : (b : List ℕ) → check_own report_mark report_length b ≡ 0 → event_of b ≡ a_report (decode_report b)
unfolding event_of
report_read b c = rw (own_mark report_mark report_length b c)

pub proposal_read : (b : List ℕ) → check_own proposal_mark proposal_length b ≡ 0
    → event_of b ≡ a_proposal (decode_proposal b)
unfolding event_of
proposal_read b c = rw (own_mark proposal_mark proposal_length b c)

-- where nothing is written, no byte is
pub no_bytes : (room : ℕ) → all_bytes room [] ≡ []
unfolding all_bytes
no_bytes room = refl
