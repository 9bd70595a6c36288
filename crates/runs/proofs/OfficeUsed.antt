-- No proposal that an office sends claims to have used itself: whatever is handed to the office, wherever it is cut
-- off, and at whatever numbers it begins.
use mathlib.Core.Path.{◌≡◌, sym, ap, ◌∙◌}
use mathlib.Core.List.{List, Memᴰ}
use Prim.Native.Nat.{ℕ, ◌≤◌, ◌<◌}
use native.Mathlib.Omega.{arith}
use Rattle.laws.specs.Lists.{none}
use Rattle.laws.proofs.Lists.{every_at}
use Rattle.laws.proofs.Fin.{if_cases, if_le}
use Rattle.laws.specs.Upd.{upd}
use Rattle.laws.proofs.Upd.{upd_same, upd_other}
use Rattle.seats.specs.Offices.{serves}
use Rattle.records.specs.declared.Proposal.{Proposal}
use Rattle.rules.specs.State.{Mode, Fast, Slow, Slot, State, nothing, keeping, stored_at, used_at, used_for, number_in}
use Rattle.rules.specs.Rules.{proposal, Outcome, and_then, restarted, net_after, opened, opens, next_number}
use Rattle.rules.specs.Rules.{own_proposal, proposed, proposes_fast, slow_number, proposes_slow, concluded}
use Rattle.rules.specs.Refusals.{Event, a_report, a_proposal, refusal_of, rule_of, take_of}
use Rattle.rule_laws.proofs.Parts.{with_net_reads, opened_reads, proposed_reads, received_reads, concluded_reads}
use Rattle.rule_laws.proofs.Parts.{restarted_reads, made_is}
use Rattle.rule_laws.proofs.SelfUse.{only_19}
use Rattle.rule_laws.proofs.Tests.{next_above, slow_above}
use Rattle.rule_laws.proofs.Steps.{check_facts, take_by}
use Rattle.rule_laws.proofs.Walk.{arrived, arrived_own, arrived_number, arrived_used, Walk, walk_event}
use Rattle.runs.specs.Office.{Input, answer_to, next_state, Turn, left_over}
use Rattle.runs.specs.World.{Item, WorldEvent, at_first, run}
use Rattle.runs.specs.Begins.{HasSent}
use Rattle.runs.proofs.OfficeTurns.{Any, any_turns}
use Rattle.runs.proofs.EachSent.{each_left, run_log}
use Rattle.runs.proofs.Proposals.{IfProposal, EachProposal, each_map, is_proposal, makes_event}
use Rattle.runs.proofs.Valid.{made_below}

-- the used number of the own office, and the number of the own stored proposal, are not above the own number
record OwnUsed (own : ℕ) (s : State) : Type 0 where
  office : s.own ≡ own
  used : used_at s own ≤ s.number
  stored : number_in (stored_at s own) ≤ s.number

-- the used number for the sender is below the proposal's own number
abbrev pub UsedBelow : Proposal → Type 0
UsedBelow p = used_for p p.sender < p.number

module _ (own : ℕ) (lt : own < 16) where
  abbrev UsedAfter : State → Outcome → Type 0
  UsedAfter s o = OwnUsed own s → OwnUsed own o.state

  same_own_used : (s t : State) → t.own ≡ s.own → used_at t own ≡ used_at s own → stored_at t own ≡ stored_at s own
      → t.number ≡ s.number → OwnUsed own s → OwnUsed own t
  same_own_used s t a b c d f =
      record { office = a ∙ f.office; used = rw (b, d) f.used; stored = rw (c, d) f.stored }

  proposed_own_used : (s : State) (m : Mode) (n : ℕ) → s.number < n → OwnUsed own s → OwnUsed own (proposed m n s)
  proposed_own_used s m n l f =
      let r = proposed_reads s m n in
      let p = own_proposal m n s in
      let a = f.used in
      let b = r.used_is own lt in
      let c = r.number_is in
      let q = r.stored_is own lt ∙ ap (λ (k : ℕ). upd (stored_at s) k (keeping p) own) f.office
      ∙ upd_same (stored_at s) own (keeping p) in
      let d = (made_is s m n).4 in
      record { office = r.own_is ∙ f.office; used = omega arith; stored = rw q (omega arith) }

  concluded_own_used : (s : State) → OwnUsed own s → OwnUsed own (concluded s)
  concluded_own_used s f =
      let r = concluded_reads s in
      record {
        office = r.own_is ∙ f.office;
        used = rw (r.used_is own lt, r.number_is)
            (if_le (serves s.net.bits own) _ (used_at s own) s.number f.stored f.used);
        stored = rw (r.stored_is own lt, r.number_is)
            (if_cases (λ (v : Slot). number_in v ≤ s.number) (serves s.net.bits own) nothing (stored_at s own)
            (λ e. omega arith) (λ e. f.stored));
      }

  own_used : Walk UsedAfter UsedAfter
  unfolding opens proposes_fast proposes_slow and_then
  own_used = record {
    idle = λ s i f. f;
    opening = λ s i. let r = opened_reads s in
        same_own_used s (opened s) r.own_is (r.used_is own lt) (r.stored_is own lt) r.number_is;
    fastly = λ s i. proposed_own_used s Fast (next_number s) (next_above s);
    slowly = λ s i. proposed_own_used s Slow (slow_number s) (slow_above s);
    concluding = λ s e. concluded_own_used s;
    chain = λ s o f a b x. b (a x);
    whole = λ s o h. h;
    finish = λ s o f a b x. b (a x);
  }

  arrived_own_used : (s : State) (e : Event) → refusal_of s e ≡ 0 → OwnUsed own s → OwnUsed own (arrived s e)
  arrived_own_used s e z f =
      same_own_used s (arrived s e) (arrived_own s e) (arrived_used s e own lt) (stored e z) (arrived_number s e) f
    where
      stored : (e : Event) → refusal_of s e ≡ 0 → stored_at (arrived s e) own ≡ stored_at s own
      stored (a_report r) z = (with_net_reads s (net_after s.net.bits r)).stored_is own lt
      stored (a_proposal p) z = (received_reads s p).stored_is own lt
          ∙ upd_other (stored_at s) p.sender (keeping p) own
          (λ e. (check_facts s p z).other (sym e ∙ sym f.office))

  answer_own_used : (s : State) (h : Input) → OwnUsed own s
      → OwnUsed own (next_state s h) × EachProposal UsedBelow (answer_to s h).written
  unfolding answer_to
  answer_own_used s h f =
      let e = h.event in
      take_by h.office s e h.room (λ ws t. OwnUsed own t × EachProposal UsedBelow ws) (f, none) (λ a.
      let g = arrived_own_used s e a.acts.passes f in (
        walk_event own_used s e g,
        each_map (λ p k. rw (k.sender ∙ g.office)
            (made_below (arrived s e) (rule_of s e).state own lt g.used p k)) (makes_event s e).sends,
      ))

  restarted_own_used : (m : ℕ) → OwnUsed own (restarted own m)
  restarted_own_used m =
      let r = restarted_reads own m in
      record {
        office = r.own_is;
        used = rw (r.used_is own lt) (omega arith);
        stored = rw (r.stored_is own lt) (omega arith);
      }

  -- of every proposal that leaves, the restarts at any numbers
  pub never_used : (m : ℕ) (ts : List Turn) (p : Proposal) → Memᴰ (proposal p) (left_over (restarted own m) ts)
      → UsedBelow p
  never_used m ts p i =
      is_proposal (every_at (left_over (restarted own m) ts)
      (each_left own (OwnUsed own) (IfProposal UsedBelow) Any restarted_own_used (λ s f. f.office)
      (λ s h i. answer_own_used s h) (restarted own m) ts (any_turns ts) (restarted_own_used m)) i)

  -- and in the world of sixteen offices, whatever the others are and do
  pub never_used_sent : (m : ℕ) (states : ℕ → State) (links : ℕ → ℕ → List Item) → states own ≡ restarted own m
      → (es : List WorldEvent) (p : Proposal) → HasSent (run (at_first states links) es) own p → UsedBelow p
  unfolding at_first
  never_used_sent m states links begins es p sent =
      is_proposal (every_at ((run (at_first states links) es).log own)
      (run_log own (OwnUsed own) (IfProposal UsedBelow) Any restarted_own_used (λ s f. f.office)
      (λ s h i. answer_own_used s h) (λ h. tt) (at_first states links) es
      (rw begins (restarted_own_used m), none)).1 sent.1)

  -- so no state of any office answers 19 to it, whatever office it is read for
  pub never_19 : (m : ℕ) (ts : List Turn) (p : Proposal) → Memᴰ (proposal p) (left_over (restarted own m) ts)
      → (office : ℕ) (s : State) (room : ℕ) → (take_of office s (a_proposal p) room).refusal ≡ 19 → ⊥
  never_19 m ts p i office s room e = let a = never_used m ts p i in let b = only_19 s p office room e in omega arith

  pub never_19_sent : (m : ℕ) (states : ℕ → State) (links : ℕ → ℕ → List Item) → states own ≡ restarted own m
      → (es : List WorldEvent) (p : Proposal) → HasSent (run (at_first states links) es) own p
      → (office : ℕ) (s : State) (room : ℕ) → (take_of office s (a_proposal p) room).refusal ≡ 19 → ⊥
  never_19_sent m states links begins es p sent office s room e =
      let a = never_used_sent m states links begins es p sent in let b = only_19 s p office room e in omega arith
