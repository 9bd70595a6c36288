-- Numbers never fall over an event, and rise with every proposal made.
use mathlib.Core.Path.{◌≡◌, refl, ◌∙◌}
use mathlib.Core.Bool.{true}
use mathlib.Core.List.{List, [], ◌∷◌, ◌++◌}
use Prim.Native.Nat.{ℕ, ◌≤◌, ◌<◌}
use native.Mathlib.Omega.{arith}
use native.Mathlib.Nat.{le_refl, le_trans, le_of_lt, lt_of_le_of_lt}
use Rattle.laws.proofs.Fin.{largest_le, if_cases}
use Rattle.laws.proofs.Tab.{get_or_tab}
use Rattle.laws.specs.Upd.{ifb, upd}
use Rattle.laws.proofs.Upd.{upd_cases}
use Rattle.seats.specs.Offices.{serves}
use Rattle.records.specs.declared.Notice.{Notice}
use Rattle.records.specs.declared.View.{View}
use Rattle.records.specs.declared.Proposal.{Proposal}
use Rattle.rules.specs.State.{Fast, State, stored_at, accepted_at, number_in}
use Rattle.rules.specs.Refusals.{Event, a_report, a_proposal, refusal_of, rule_of, take_of, step_of}
use Rattle.rule_laws.proofs.Tests.{next_above, slow_above}
use Rattle.rule_laws.proofs.Walk.{arrived, concludes, Walk, walk_event}
use Rattle.rule_laws.proofs.Steps.{check_facts, step_by, take_by}
use Rattle.rules.specs.Rules.{Written, notice, proposal, view, Outcome, nothing_written, and_then, with_net, opened}
use Rattle.rules.specs.Rules.{opens, next_number, own_proposal, proposed, has_recipient, proposes_fast, received}
use Rattle.rules.specs.Rules.{proposes_slow, agreed, concluded}

-- the number of a new proposal is above the stored numbers of the net view's offices
pub next_above_stored : (s : State) (o : ℕ) → o < 16 → serves s.net.bits o ≡ true
    → number_in (stored_at s o) < next_number s
unfolding next_number
next_above_stored s o l e =
    let a = largest_le 16 (λ o. ifb (serves s.net.bits o) (number_in (stored_at s o)) 0) o l in
    let b = rw e at a in
    omega arith

-- from number n to number m, strictly up at each proposal written
pub data Ascending : ℕ → List Written → ℕ → Type 0 where
  at_end : {n m : ℕ} → n ≤ m → Ascending n [] m
  past_notice : {n m : ℕ} {x : Notice} {ws : List Written} → Ascending n ws m → Ascending n (notice x ∷ ws) m
  past_view : {n m : ℕ} {x : View} {ws : List Written} → Ascending n ws m → Ascending n (view x ∷ ws) m
  past_proposal : {n m : ℕ} {p : Proposal} {ws : List Written} → n < p.number → Ascending p.number ws m
      → Ascending n (proposal p ∷ ws) m

ascending_from : {n k m : ℕ} {ws : List Written} → n ≤ k → Ascending k ws m → Ascending n ws m
ascending_from l (at_end h) = at_end (le_trans l h)
ascending_from l (past_notice r) = past_notice (ascending_from l r)
ascending_from l (past_view r) = past_view (ascending_from l r)
ascending_from l (past_proposal h r) = past_proposal (lt_of_le_of_lt l h) r

ascending_then : {n k m : ℕ} {a b : List Written} → Ascending n a k → Ascending k b m → Ascending n (a ++ b) m
ascending_then (at_end h) q = ascending_from h q
ascending_then (past_notice r) q = past_notice (ascending_then r q)
ascending_then (past_view r) q = past_view (ascending_then r q)
ascending_then (past_proposal h r) q = past_proposal h (ascending_then r q)

-- what an outcome keeps of the state it comes from, and what only grows
pub record Grows (s : State) (o : Outcome) : Type 0 where
  pub own : o.state.own ≡ s.own
  pub accepted : o.state.accepted ≡ s.accepted
  pub start : s.start ≤ o.state.start
  pub numbers : Ascending s.number o.written o.state.number

none_grows : (s : State) → Grows s (nothing_written s)
none_grows s = record { own = refl; accepted = refl; start = le_refl _; numbers = at_end (le_refl _) }

then_grows : (s : State) (o : Outcome) (f : State → Outcome) → Grows s o → Grows o.state (f o.state)
    → Grows s (and_then o f)
unfolding and_then
then_grows s o f h k = record {
  own = k.own ∙ h.own;
  accepted = k.accepted ∙ h.accepted;
  start = omega arith;
  numbers = ascending_then h.numbers k.numbers;
}

opens_grows : (s : State) → Grows s (opens s)
unfolding opens opened
opens_grows s = record { own = refl; accepted = refl; start = omega arith; numbers = past_notice (at_end (le_refl _)) }

fast_grows : (s : State) → Grows s (proposes_fast s)
unfolding proposes_fast proposed own_proposal
fast_grows s =
    let p = own_proposal Fast (next_number s) s in
    record {
      own = refl;
      accepted = refl;
      start = le_refl _;
      numbers = if_cases (λ ws. Ascending s.number ws (next_number s)) (has_recipient p) (proposal p ∷ []) []
          (λ e. past_proposal (next_above s) (at_end (le_refl _))) (λ e. at_end (le_of_lt (next_above s)));
    }

slow_grows : (s : State) → Grows s (proposes_slow s)
unfolding proposes_slow proposed own_proposal
slow_grows s = record {
  own = refl;
  accepted = refl;
  start = le_refl _;
  numbers = past_proposal (slow_above s) (at_end (le_refl _));
}

view_grows : (s : State) → agreed s ≡ true → Grows s (concludes s)
unfolding concluded
view_grows s e = record { own = refl; accepted = refl; start = le_refl _; numbers = past_view (at_end (le_refl _)) }

growing : Walk Grows Grows
growing = record {
  idle = λ s i. none_grows s;
  opening = λ s i. opens_grows s;
  fastly = λ s i. fast_grows s;
  slowly = λ s i. slow_grows s;
  concluding = view_grows;
  chain = then_grows;
  whole = λ s o h. h;
  finish = then_grows;
}

-- an event, from the state in which its first change leaves the office
pub event_grows : (s : State) (e : Event) → Grows (arrived s e) (rule_of s e)
event_grows = walk_event growing

-- over a step on any state, accepted or not, no start, proposal or last accepted number falls
pub record Rises (s : State) (written : List Written) (t : State) : Type 0 where
  pub start : s.start ≤ t.start
  pub numbers : Ascending s.number written t.number
  pub accepted : (o : ℕ) → o < 16 → accepted_at s o ≤ accepted_at t o

event_rises : (s : State) (e : Event) → refusal_of s e ≡ 0 → Rises s (rule_of s e).written (rule_of s e).state
unfolding with_net received
event_rises s (a_report r) z =
    let g = event_grows s (a_report r) in
    record { start = g.start; numbers = g.numbers; accepted = λ o l. rw g.accepted (le_refl _) }
event_rises s (a_proposal p) z =
    let g = event_grows s (a_proposal p) in
    record {
      start = g.start;
      numbers = g.numbers;
      accepted = λ o l.
          rw (g.accepted, get_or_tab 16 (upd (accepted_at s) p.sender p.number) o 0 l)
          (upd_cases (λ k n. accepted_at s k ≤ n) (accepted_at s) p.sender p.number o
          (le_of_lt (check_facts s p z).above) (λ n. le_refl _));
    }

rises_none : (s : State) → Rises s [] s
rises_none s = record { start = le_refl _; numbers = at_end (le_refl _); accepted = λ o l. le_refl _ }

-- of an event taken or not, and of a step
pub take_rises : (office : ℕ) (s : State) (e : Event) (output : ℕ)
    → Rises s (take_of office s e output).written (take_of office s e output).state
take_rises office s e output =
    take_by office s e output (Rises s) (rises_none s) (λ a. event_rises s e a.acts.passes)

pub step_rises : (office : ℕ) (s : State) (b : List ℕ) (output : ℕ)
    → Rises s (step_of office s b output).written (step_of office s b output).state
step_rises office s b output = step_by office s b output (Rises s) (rises_none s) (λ e. take_rises office s e output)
