-- One walk over the rules: what holds of each part of an event, and of parts one after another, holds of every event.
use mathlib.Core.Path.{◌≡◌, refl, sym, ap, subst}
use mathlib.Core.Bool.{true, false}
use mathlib.Core.List.{List, [], ◌∷◌, append_assoc, append-nil}
use Prim.Native.Nat.{ℕ, ◌<◌}
use native.Mathlib.Omega.{arith}
use lib.Dec.{eqb}
use borrow.Author.Tests.{eqb-true, eqb-false}
use Rattle.laws.proofs.Fin.{if_cases}
use Rattle.records.specs.declared.Report.{Report}
use Rattle.records.specs.declared.Proposal.{Proposal}
use Rattle.rules.specs.State.{Mode, None, Fast, Slow, State, used_at}
use Rattle.rules.specs.Rules.{Written, view, Outcome, nothing_written, and_then, net_after, with_net, repeats, seated}
use Rattle.rules.specs.Rules.{opened, opens, proposes_fast, received, slow_called, begins_in, proposes_slow, slow_test}
use Rattle.rules.specs.Rules.{agreed, view_of, concluded, agreement_test, tests, change_rule, report_rule}
use Rattle.rules.specs.Rules.{proposal_rule}
use Rattle.rules.specs.Refusals.{Event, a_report, a_proposal, rule_of}
use Rattle.rule_laws.proofs.Parts.{with_net_reads, received_reads}
use Rattle.rule_laws.proofs.Repeats.{repeat_state}

-- the state in which the first change of an event leaves the office: step 1 of a report, or a proposal stored
abbrev pub arrived : State → Event → State
arrived s (a_report r) = with_net s (net_after s.net.bits r)
arrived s (a_proposal p) = received s p

-- it changes neither the office nor its numbers
pub arrived_own : (s : State) (e : Event) → (arrived s e).own ≡ s.own
arrived_own s (a_report r) = (with_net_reads s (net_after s.net.bits r)).own_is
arrived_own s (a_proposal p) = (received_reads s p).own_is

pub arrived_number : (s : State) (e : Event) → (arrived s e).number ≡ s.number
arrived_number s (a_report r) = (with_net_reads s (net_after s.net.bits r)).number_is
arrived_number s (a_proposal p) = (received_reads s p).number_is

pub arrived_used : (s : State) (e : Event) (o : ℕ) → o < 16 → used_at (arrived s e) o ≡ used_at s o
arrived_used s (a_report r) = (with_net_reads s (net_after s.net.bits r)).used_is
arrived_used s (a_proposal p) = (received_reads s p).used_is

-- the slow test and the agreement test, where they hold
abbrev pub slow_round : State → Outcome
slow_round s = and_then (begins_in s.mode s) proposes_slow

abbrev pub concludes : State → Outcome
concludes s = record { state = concluded s; written = view (view_of s) ∷ [] }

-- An event in three stages, each with what holds of the outcome so far when it is over: A after the fast proposal of
-- a report (of a proposal at once), B after the slow test, P after the agreement test. Here the two tests.
pub record Tested (A B P : Outcome → Type 0) : Type 0 where
  pub called : (o : Outcome) → A o → slow_called o.state ≡ true → B (and_then o slow_round)
  pub uncalled : (o : Outcome) → A o → slow_called o.state ≡ false → B o
  pub agrees : (o : Outcome) → B o → agreed o.state ≡ true → P (and_then o concludes)
  pub unagreed : (o : Outcome) → B o → agreed o.state ≡ false → P o

pub then_state : (o : Outcome) (f : State → Outcome) → (and_then o f).state ≡ (f o.state).state
unfolding and_then
then_state o f = refl

then_none : (o : Outcome) → and_then o nothing_written ≡ o
unfolding and_then
then_none o = ap (λ (ws : List Written). record { state = o.state; written = ws }) (append-nil o.written)

then_then : (o : Outcome) (f g : State → Outcome) → and_then (and_then o f) g ≡ and_then o (λ u. and_then (f u) g)
unfolding and_then
then_then o f g =
    ap (λ (ws : List Written). record { state = (g (f o.state).state).state; written = ws })
    (append_assoc o.written (f o.state).written (g (f o.state).state).written)

module _ {A B P : Outcome → Type 0} (w : Tested A B P) where
  tested_slow : (o : Outcome) → A o → B (and_then o slow_test)
  unfolding and_then slow_test
  tested_slow o a = if_cases (λ (r : Outcome). B (and_then o (λ u. r))) (slow_called o.state) _ _
      (w.called o a) (λ e. rw (then_none o) (w.uncalled o a e))

  tested_agreement : (o : Outcome) → B o → P (and_then o agreement_test)
  unfolding and_then agreement_test
  tested_agreement o b = if_cases (λ (r : Outcome). P (and_then o (λ u. r))) (agreed o.state) _ _
      (w.agrees o b) (λ e. rw (then_none o) (w.unagreed o b e))

  tested : (o : Outcome) → A o → P (and_then o tests)
  unfolding tests
  tested o a = rw (then_then o slow_test agreement_test) at (tested_agreement (and_then o slow_test) (tested_slow o a))

  -- the tests at once
  pub tested_now : (s : State) → A (nothing_written s) → P (tests s)
  unfolding and_then
  tested_now s a = tested (nothing_written s) a

  -- the net view has changed: no seat, or the fast proposal and then the tests
  pub staged_change : (s : State) → (seated s ≡ false → P (nothing_written s))
      → (seated s ≡ true → A (and_then (opens s) proposes_fast)) → P (change_rule s)
  unfolding change_rule
  staged_change s ends round =
      if_cases P (seated s) _ _
      (λ e. rw (then_then (opens s) proposes_fast tests) at (tested (and_then (opens s) proposes_fast) (round e))) ends

  -- a report: a repeat, or a change
  pub staged_report : (s : State) (r : Report)
      → (repeats s r ≡ true → P (nothing_written s))
      → (seated (arrived s (a_report r)) ≡ false → P (nothing_written (arrived s (a_report r))))
      → (seated (arrived s (a_report r)) ≡ true → A (and_then (opens (arrived s (a_report r))) proposes_fast))
      → P (report_rule s r)
  unfolding report_rule
  staged_report s r again ends round =
      if_cases P (repeats s r) _ _ again (λ c. staged_change (arrived s (a_report r)) ends round)

  -- a proposal: other members than the net view, or the tests
  pub staged_proposal : (s : State) (p : Proposal)
      → ((p.members.bits ≡ s.net.bits → ⊥) → P (nothing_written (received s p)))
      → (p.members.bits ≡ s.net.bits → A (nothing_written (received s p)))
      → P (proposal_rule s p)
  unfolding proposal_rule
  staged_proposal s p ends now =
      if_cases P (eqb p.members.bits s.net.bits) _ _
      (λ e. tested_now (received s p) (now (eqb-true p.members.bits s.net.bits e)))
      (λ e. ends (eqb-false p.members.bits s.net.bits e))

-- What needs no memory of the stages: a predicate of the state before a part and the part's outcome, kept by parts
-- one after another.

-- why nothing is done in a state
pub data Idle (s : State) : Type 0 where
  at_beginning : Idle s
  on_repeat : (r : Report) → repeats s r ≡ true → Idle s
  unseated : seated s ≡ false → Idle s
  other_members : (p : Proposal) → (p.members.bits ≡ s.net.bits → ⊥) → Idle s
  underway : (s.mode ≡ None → ⊥) → Idle s
  uncalled : slow_called s ≡ false → Idle s
  unagreed : agreed s ≡ false → Idle s

-- why step 3 is done in a state
pub data Opens (s : State) : Type 0 where
  on_report : seated s ≡ true → Opens s
  on_call : s.mode ≡ None → slow_called s ≡ true → Opens s

-- how a state came to make a fast, and a slow, proposal
pub record ProposesFast (u : State) : Type 0 where
  pub before : State
  pub seat : seated before ≡ true
  pub is : u ≡ opened before

pub data ProposesSlow (u : State) : Type 0 where
  after_opening : (s : State) → s.mode ≡ None → slow_called s ≡ true → u ≡ opened s → ProposesSlow u
  in_round : (u.mode ≡ None → ⊥) → slow_called u ≡ true → ProposesSlow u

-- Q of the parts before a view, P of a whole event
pub record Walk (Q P : State → Outcome → Type 0) : Type 0 where
  pub idle : (s : State) → Idle s → Q s (nothing_written s)
  pub opening : (s : State) → Opens s → Q s (opens s)
  pub fastly : (s : State) → ProposesFast s → Q s (proposes_fast s)
  pub slowly : (s : State) → ProposesSlow s → Q s (proposes_slow s)
  pub concluding : (s : State) → agreed s ≡ true → P s (concludes s)
  pub chain : (s : State) (o : Outcome) (f : State → Outcome) → Q s o → Q o.state (f o.state) → Q s (and_then o f)
  pub whole : (s : State) (o : Outcome) → Q s o → P s o
  pub finish : (s : State) (o : Outcome) (f : State → Outcome) → Q s o → P o.state (f o.state)
      → P s (and_then o f)

module _ {Q P : State → Outcome → Type 0} (w : Walk Q P) where
  -- the slow proposal, in the state that the beginning leaves
  walk_called : (m : Mode) (s : State) → s.mode ≡ m → slow_called s ≡ true
      → Q s (and_then (begins_in m s) proposes_slow)
  unfolding opens
  walk_called None s e c =
      w.chain s (opens s) proposes_slow (w.opening s (on_call e c)) (w.slowly (opened s) (after_opening s e c refl))
  walk_called Fast s e c =
      let busy : s.mode ≡ None → ⊥ = λ n. let z : ◌≡◌ {A = ℕ} 0 1 = cc in omega arith in
      w.chain s (nothing_written s) proposes_slow (w.idle s (underway busy)) (w.slowly s (in_round busy c))
  walk_called Slow s e c =
      let busy : s.mode ≡ None → ⊥ = λ n. let z : ◌≡◌ {A = ℕ} 0 1 = cc in omega arith in
      w.chain s (nothing_written s) proposes_slow (w.idle s (underway busy)) (w.slowly s (in_round busy c))

  walk_reported : (s : State) → seated s ≡ true → Q s (and_then (opens s) proposes_fast)
  unfolding opens
  walk_reported s e =
      w.chain s (opens s) proposes_fast (w.opening s (on_report e))
      (w.fastly (opened s) (record { before = s; seat = e; is = refl }))

  -- one idle part more
  rest : (s : State) (o : Outcome) → Q s o → Idle o.state → Q s o
  rest s o q i = rw (then_none o) at (w.chain s o nothing_written q (w.idle o.state i))

  walking : (s : State) → Tested (Q s) (Q s) (P s)
  walking s = record {
    called = λ o q e. w.chain s o slow_round q (walk_called o.state.mode o.state refl e);
    uncalled = λ o q e. rest s o q (uncalled e);
    agrees = λ o q e. w.finish s o concludes q (w.concluding o.state e);
    unagreed = λ o q e. w.whole s o (rest s o q (unagreed e));
  }

  ending : (s : State) → Idle s → P s (nothing_written s)
  ending s i = w.whole s (nothing_written s) (w.idle s i)

  pub walk_report : (s : State) (r : Report) → P (arrived s (a_report r)) (report_rule s r)
  walk_report s r =
      let t = arrived s (a_report r) in
      staged_report (walking t) s r
      (λ e. subst (λ (u : State). P u (nothing_written s)) (sym (repeat_state s r e)) (ending s (on_repeat r e)))
      (λ e. ending t (unseated e)) (walk_reported t)

  pub walk_proposal : (s : State) (p : Proposal) → P (received s p) (proposal_rule s p)
  walk_proposal s p =
      let t = received s p in
      staged_proposal (walking t) s p (λ e. ending t (other_members p (rw (received_reads s p).net_is e)))
      (λ e. w.idle t at_beginning)

  pub walk_event : (s : State) (e : Event) → P (arrived s e) (rule_of s e)
  walk_event s (a_report r) = walk_report s r
  walk_event s (a_proposal p) = walk_proposal s p
