-- The proposals that an event makes, in every state of every office: who they name, what they tell, that they are
-- well formed.
use mathlib.Core.Path.{◌≡◌, refl, sym, ap, ◌∙◌}
use mathlib.Core.Bool.{true, false}
use mathlib.Core.Logic.{◌⊎◌, inl, inr}
use mathlib.Core.List.{List, Memᴰ}
use Prim.Native.Nat.{ℕ, ◌^◌, ◌≤◌, ◌<◌}
use native.Mathlib.Omega.{arith}
use lib.ListN.{length}
use Rattle.laws.specs.Lists.{Every, none, more}
use Rattle.laws.proofs.Lists.{every_append, every_map, every_in}
use Rattle.laws.proofs.Fin.{if_cases, true_false}
use Rattle.laws.proofs.Tab.{length_tab}
use Rattle.laws.specs.Upd.{ifb}
use Rattle.seats.specs.Offices.{serves}
use Rattle.records.specs.Fits.{FitsReport}
use Rattle.records.specs.declared.Report.{Report}
use Rattle.records.specs.declared.Proposal.{Proposal}
use Rattle.records.specs.declared.Notice.{Notice}
use Rattle.records.specs.declared.View.{View}
use Rattle.rules.specs.State.{Mode, None, Fast, Slow, State, fast, slow, kind_of, used_at, used_for}
use Rattle.rules.specs.Rules.{Written, notice, proposal, view, Outcome, nothing_written, and_then, has_recipient}
use Rattle.rules.specs.Rules.{net_after, repeats, seated, own_proposal, proposed, opens, slow_number, next_number}
use Rattle.rules.specs.Rules.{proposes_slow, proposes_fast, received, report_rule, proposal_rule}
use Rattle.rules.specs.Refusals.{Event, a_report, rule_of, take_of}
use Rattle.rule_laws.proofs.Steps.{take_by}
use Rattle.rule_laws.proofs.Parts.{with_net_reads, opened_reads, proposed_reads, received_reads, concluded_reads}
use Rattle.rule_laws.proofs.Parts.{made_is, made_used}
use Rattle.rule_laws.proofs.Repeats.{repeat_state, again_repeats}
use Rattle.rule_laws.proofs.Tests.{slow_above, next_above}
use Rattle.rule_laws.proofs.Walk.{arrived, arrived_own, concludes, ProposesFast, ProposesSlow, after_opening, in_round}
use Rattle.rule_laws.proofs.Walk.{Walk, Tested, staged_report, staged_proposal, walk_report, walk_proposal, walk_event}

-- P holds of a record if it is a proposal, and of each proposal written
pub data IfProposal (P : Proposal → Type 0) : Written → Type 0 where
  if_notice : {n : Notice} → IfProposal P (notice n)
  if_proposal : {p : Proposal} → P p → IfProposal P (proposal p)
  if_view : {v : View} → IfProposal P (view v)

abbrev pub EachProposal : (Proposal → Type 0) → List Written → Type 0
EachProposal P = Every (IfProposal P)

pub each_map : {P Q : Proposal → Type 0} {ws : List Written} → ((p : Proposal) → P p → Q p) → EachProposal P ws
    → EachProposal Q ws
each_map {P} {Q} f = every_map one
  where
    one : (w : Written) → IfProposal P w → IfProposal Q w
    one (notice n) if_notice = if_notice
    one (proposal p) (if_proposal h) = if_proposal (f p h)
    one (view v) if_view = if_view

pub each_in : {P : Proposal → Type 0} (ws : List Written) → ((p : Proposal) → Memᴰ (proposal p) ws → P p)
    → EachProposal P ws
each_in {P} ws h = every_in ws one
  where
    one : (w : Written) → Memᴰ w ws → IfProposal P w
    one (notice n) m = if_notice
    one (proposal p) m = if_proposal (h p m)
    one (view v) m = if_view

pub is_proposal : {P : Proposal → Type 0} {p : Proposal} → IfProposal P (proposal p) → P p
is_proposal (if_proposal h) = h

-- a round is open only after a start number was given out
abbrev pub Begun : State → Type 0
Begun s = (s.mode ≡ None → ⊥) → 1 ≤ s.start

-- a round is fast or slow
pub kinds : (m : Mode) → (m ≡ None → ⊥) → (kind_of m ≡ fast) ⊎ (kind_of m ≡ slow)
kinds None e = absurd (e refl)
kinds Fast e = inl refl
kinds Slow e = inr refl

-- the proposal p is made between the states s and u of one office
pub record MadeBetween (s u : State) (p : Proposal) : Type 0 where
  pub sender : p.sender ≡ s.own
  pub kind : (p.kind ≡ fast) ⊎ (p.kind ≡ slow)
  pub members : p.members.bits ≡ s.net.bits
  pub start : (Begun s → 1 ≤ p.start) × (p.start ≤ u.start)
  pub number : (s.number < p.number) × (p.number ≤ u.number)
  pub used : (o : ℕ) → o < 16 → used_for p o ≡ ifb (serves s.net.bits o) (used_at s o) 0
  pub sixteen : length p.used ≡ 16

-- what an outcome does to the own parts of a state, and the proposals that it makes
pub record Makes (s : State) (o : Outcome) : Type 0 where
  pub own : o.state.own ≡ s.own
  pub net : o.state.net.bits ≡ s.net.bits
  pub number : s.number ≤ o.state.number
  pub start : s.start ≤ o.state.start
  pub begun : Begun s → Begun o.state
  pub sends : EachProposal (MadeBetween s o.state) o.written

-- before the view the used numbers stay
record MakesFirst (s : State) (o : Outcome) : Type 0 where
  makes : Makes s o
  same_used : (o' : ℕ) → o' < 16 → used_at o.state o' ≡ used_at s o'

makes_then : (s : State) (o : Outcome) (f : State → Outcome) → MakesFirst s o → Makes o.state (f o.state)
    → Makes s (and_then o f)
unfolding and_then
makes_then s o f q b =
    let a = q.makes in
    let n = a.number in
    let m = b.number in
    let x = a.start in
    let y = b.start in
    record {
      own = b.own ∙ a.own;
      net = b.net ∙ a.net;
      number = omega arith;
      start = omega arith;
      begun = λ h. b.begun (a.begun h);
      sends = every_append (each_map earlier a.sends) (each_map later b.sends);
    }
  where
    earlier : (p : Proposal) → MadeBetween s o.state p → MadeBetween s (f o.state).state p
    earlier p m =
        let x = b.start in
        let y = b.number in
        let v = m.start.1 in
        let w = m.number in
        record {
          sender = m.sender;
          kind = m.kind;
          members = m.members;
          start = (m.start.0, omega arith);
          number = (w.0, omega arith);
          used = m.used;
          sixteen = m.sixteen;
        }

    later : (p : Proposal) → MadeBetween o.state (f o.state).state p → MadeBetween s (f o.state).state p
    later p m =
        let a = q.makes in
        let x = m.number in
        let y = a.number in
        record {
          sender = m.sender ∙ a.own;
          kind = m.kind;
          members = m.members ∙ a.net;
          start = (λ h. m.start.0 (a.begun h), m.start.1);
          number = (omega arith, m.number.1);
          used = λ k lt. m.used k lt ∙ rw (a.net, q.same_used k lt);
          sixteen = m.sixteen;
        }

first_then : (s : State) (o : Outcome) (f : State → Outcome) → MakesFirst s o → MakesFirst o.state (f o.state)
    → MakesFirst s (and_then o f)
unfolding and_then
first_then s o f a b =
    record { makes = makes_then s o f a b.makes; same_used = λ k lt. b.same_used k lt ∙ a.same_used k lt }

module _ (s : State) where
  makes_none : MakesFirst s (nothing_written s)
  makes_none = record {
    makes = record { own = refl; net = refl; number = omega arith; start = omega arith; begun = λ b. b; sends = none };
    same_used = λ o lt. refl;
  }

  made_length : (m : Mode) (n : ℕ) → length (own_proposal m n s).used ≡ 16
  unfolding own_proposal
  made_length m n = length_tab 16 _

  -- where a start number has been given out
  module _ (m : Mode) (n : ℕ) (busy : m ≡ None → ⊥) (lt : s.number < n) (given : Begun s → 1 ≤ s.start) where
    made_between : MadeBetween s (proposed m n s) (own_proposal m n s)
    made_between =
        let w = made_is s m n in
        let r = proposed_reads s m n in
        let a = w.3 in
        let c = w.4 in
        let d = r.start_is in
        let e = r.number_is in
        record {
          sender = w.0;
          kind = rw w.1 (kinds m busy);
          members = w.2;
          start = (λ h. let g = given h in omega arith, omega arith);
          number = (omega arith, omega arith);
          used = made_used s m n;
          sixteen = made_length m n;
        }

    makes_propose : (ws : List Written) → EachProposal (MadeBetween s (proposed m n s)) ws
        → MakesFirst s (record { state = proposed m n s; written = ws })
    makes_propose ws e =
        let r = proposed_reads s m n in
        let a = r.start_is in
        let b = r.number_is in
        record {
          makes = record {
            own = r.own_is;
            net = r.net_is;
            number = omega arith;
            start = omega arith;
            begun = λ h q. let g = given h in omega arith;
            sends = e;
          };
          same_used = r.used_is;
        }

  makes_open : MakesFirst s (opens s)
  unfolding opens
  makes_open =
      let r = opened_reads s in
      let a = r.start_is in
      let b = r.number_is in
      record {
        makes = record {
          own = r.own_is;
          net = r.net_is;
          number = omega arith;
          start = omega arith;
          begun = λ h q. omega arith;
          sends = more if_notice none;
        };
        same_used = r.used_is;
      }

  makes_fast : ProposesFast s → MakesFirst s (proposes_fast s)
  unfolding proposes_fast
  makes_fast q =
      let given : Begun s → 1 ≤ s.start =
      λ h. rw q.is (let a = (opened_reads q.before).start_is in omega arith) in
      let busy : Fast ≡ None → ⊥ = λ e. let z : ◌≡◌ {A = ℕ} 0 1 = cc in omega arith in
      makes_propose Fast (next_number s) busy (next_above s) given _
      (if_cases (EachProposal (MadeBetween s (proposed Fast (next_number s) s)))
      (has_recipient (own_proposal Fast (next_number s) s)) _ _
      (λ e. more (if_proposal (made_between Fast (next_number s) busy (next_above s) given)) none)
      (λ e. none))

  makes_slow : ProposesSlow s → MakesFirst s (proposes_slow s)
  unfolding proposes_slow
  makes_slow q =
      let busy : Slow ≡ None → ⊥ = λ e. let z : ◌≡◌ {A = ℕ} 0 1 = cc in omega arith in
      makes_propose Slow (slow_number s) busy (slow_above s) (given q) _
      (more (if_proposal (made_between Slow (slow_number s) busy (slow_above s) (given q))) none)
    where
      given : ProposesSlow s → Begun s → 1 ≤ s.start
      given (after_opening u n c e) h = rw e (let a = (opened_reads u).start_is in omega arith)
      given (in_round n c) h = h n

  makes_view : Makes s (concludes s)
  makes_view =
      let r = concluded_reads s in
      let a = r.start_is in
      let c = r.number_is in
      record {
        own = r.own_is;
        net = r.net_is;
        number = omega arith;
        start = omega arith;
        begun = λ h q. absurd (q r.mode_is);
        sends = more if_view none;
      }

making : Walk MakesFirst Makes
making = record {
  idle = λ s i. makes_none s;
  opening = λ s i. makes_open s;
  fastly = makes_fast;
  slowly = makes_slow;
  concluding = λ s e. makes_view s;
  chain = first_then;
  whole = λ s o h. h.makes;
  finish = makes_then;
}

-- what an event makes, from the state that its first change leaves
pub makes_report : (s : State) (r : Report) → Makes (arrived s (a_report r)) (report_rule s r)
makes_report = walk_report making

pub makes_proposal : (s : State) (p : Proposal) → Makes (received s p) (proposal_rule s p)
makes_proposal = walk_proposal making

pub makes_event : (s : State) (e : Event) → Makes (arrived s e) (rule_of s e)
makes_event = walk_event making

-- where nothing more is done: a report with no seat of its own, a proposal with other members than the net view
nowhere : {P : Outcome → Type 0} → Tested (λ o. ⊥) (λ o. ⊥) P
nowhere = record {
  called = λ o a. absurd a;
  uncalled = λ o a. absurd a;
  agrees = λ o a. absurd a;
  unagreed = λ o a. absurd a;
}

pub unseated_report : (s : State) (r : Report) → seated (arrived s (a_report r)) ≡ false
    → report_rule s r ≡ nothing_written (arrived s (a_report r))
unseated_report s r e = staged_report {P = λ o. o ≡ nothing_written (arrived s (a_report r))} nowhere s r
    (λ k. ap nothing_written (sym (repeat_state s r k))) (λ k. refl) (λ k. absurd (true_false _ k e))

pub other_members : (s : State) (p : Proposal) → (p.members.bits ≡ s.net.bits → ⊥)
    → proposal_rule s p ≡ nothing_written (received s p)
other_members s p n =
    staged_proposal {P = λ o. o ≡ nothing_written (received s p)} nowhere s p (λ k. refl) (λ e. absurd (n e))

-- the net view after a report is that of step 1, and after a proposal stays
pub report_net : (s : State) (r : Report) → (report_rule s r).state.net.bits ≡ net_after s.net.bits r
report_net s r = (makes_report s r).net ∙ (with_net_reads s (net_after s.net.bits r)).net_is

-- so the same report again is a repeat
pub same_report_repeats : (s : State) (r : Report) → s.net.bits < 2 ^ 64 → FitsReport r
    → repeats (report_rule s r).state r ≡ true
same_report_repeats s r l f = again_repeats (report_rule s r).state s.net.bits r l f (report_net s r)

pub proposal_net : (s : State) (p : Proposal) → (proposal_rule s p).state.net.bits ≡ s.net.bits
proposal_net s p = (makes_proposal s p).net ∙ (received_reads s p).net_is

-- an answer of any office keeps the own office, and the proposals name it
pub step_names : (office : ℕ) (s : State) (e : Event) (room : ℕ)
    → ((take_of office s e room).state.own ≡ s.own)
    × EachProposal (λ p. p.sender ≡ s.own) (take_of office s e room).written
step_names office s e room =
    take_by office s e room (λ ws t. (t.own ≡ s.own) × EachProposal (λ p. p.sender ≡ s.own) ws) (refl, none)
    (λ a. let m = makes_event s e in let own = arrived_own s e in
    (m.own ∙ own, each_map (λ p k. k.sender ∙ own) m.sends))
