-- Figures 5 and 6 of Moshe beside the rules: with document 01's slow agreement the handlers are the rules, on every
-- state; and where slow agreement is not called for they are the fast agreement algorithm as printed. Of reports,
-- those that change the net view.
use mathlib.Core.Path.{◌≡◌, refl, sym, ap, subst, ◌∙◌}
use mathlib.Core.Bool.{Bool, true, false, ◌&&◌, ◌||◌, not}
use mathlib.Core.Logic.{◌⊎◌, inl, inr, ◌↔◌}
use mathlib.Core.List.{List, [], ◌∷◌, ◌++◌, map, map-append}
use Prim.Native.Nat.{ℕ, ◌+◌, ◌<◌}
use native.Mathlib.Omega.{arith}
use native.Mathlib.Decide.{ℕ_discrete}
use lib.Dec.{eqb}
use borrow.Author.Tests.{eqb-true, eq-eqb}
use Rattle.laws.specs.Fin.{allb, anyb, largest}
use Rattle.laws.proofs.Fin.{largest_ext, and_l, and_r, and_in, if_cases, allb_ext}
use Rattle.laws.specs.Tab.{tab}
use Rattle.laws.proofs.Tab.{tab_ext}
use Rattle.laws.specs.Upd.{ifb, upd}
use Rattle.laws.proofs.Upd.{upd_same, upd_other, upd_cases}
use Rattle.seats.specs.Seats.{has}
use Rattle.seats.specs.Offices.{office_of, serves}
use Rattle.seats.proofs.OfficeLaws.{seat_serves, serves_seat}
use Rattle.records.specs.declared.Report.{Report}
use Rattle.records.specs.declared.Proposal.{Proposal}
use Rattle.rules.specs.State.{Mode, None, Fast, Slow, Slot, State, keeping, fast, slow, zeros, stored_at, accepted_at}
use Rattle.rules.specs.Rules.{notice, proposal, Outcome, nothing_written, and_then, fresh, restarted, net_after}
use Rattle.rules.specs.Rules.{with_net, repeats, seated, opened, notice_of, opens, next_number, own_proposal, proposed}
use Rattle.rules.specs.Rules.{receives, proposes_fast, received, in_slot, slow_called, begins_in, proposes_slow}
use Rattle.rules.specs.Rules.{slow_test, is_none, agrees_kind, agrees_in, agreed, start_of, view_of, concluded}
use Rattle.rules.specs.Rules.{agreement_test, tests, change_rule, report_rule, proposal_rule}
use Rattle.moshe.specs.Moshe.{Leaves, Server, to_clients, to_servers, Handled, nothing_sent, then_run, local, initially}
use Rattle.moshe.specs.Moshe.{props_of, used_props_of, update_ns_view, any_local, start_fa, send_start_change}
use Rattle.moshe.specs.Moshe.{proposal_fa, others, send_proposal, store_prop, use_props, send_view, deliver_view}
use Rattle.moshe.specs.Moshe.{matches_ns_view, on_proposal, starts_fa, on_ne, reached_fa, never_sa, no_sa}
use Rattle.moshe.specs.Moshe.{fast_on_proposal, fast_on_ne, server_of, state_from, addressed, handled_of, needed}
use Rattle.moshe.specs.Moshe.{slow_proposal, reached, on_proposal01, on_ne01, IsFast, Known, OwnFast, OthersKnown}
use Rattle.rule_laws.proofs.Parts.{proposed_reads, received_reads}
use Rattle.rule_laws.proofs.Repeats.{repeat_rule, change_rule_lem}
use Rattle.rule_laws.proofs.Tests.{not_called, agreed_out}

-- local(NSView) is not empty exactly when the test says so
pub local_some : (v : Server) → (any_local v ≡ true) ↔ ((c : ℕ) × (local v.me v.NSView c ≡ true))
unfolding any_local local
local_some v = (
  λ e. let w = serves_seat v.NSView.bits v.me e in (w.0, and_in _ _ w.2 (eq-eqb _ _ w.1)),
  λ w.
      let h = and_l (has v.NSView.bits w.0) _ w.1 in
      let o = eqb-true (office_of w.0) v.me (and_r (has v.NSView.bits w.0) _ w.1) in
      rw (← o) (seat_serves v.NSView.bits w.0 h),
)

-- the initial values are the fresh state
pub initially_fresh : (o : ℕ) → state_from zeros (initially o) ≡ fresh o
unfolding fresh restarted initially
initially_fresh o = refl

-- one part after another, on either side
ran_then : (own : ℕ) (acc : List ℕ) (o : Outcome) (f : State → Outcome) → o.state.accepted ≡ acc
    → handled_of own (and_then o f) ≡ then_run (handled_of own o) (λ v. handled_of own (f (state_from acc v)))
unfolding and_then then_run
ran_then own acc o f e = rw (← e, map-append (addressed own) o.written (f o.state).written)

then_same : (r : Handled) (f g : Server → Handled) → f r.server ≡ g r.server → then_run r f ≡ then_run r g
unfolding then_run
then_same r f g e = rw e

plus : (n : ℕ) → n + 1 ≡ 1 + n
plus n = omega arith

-- a view: where agreement is reached every server of NSView has a proposal stored, so that no null is read
module _ (s : State) (a : agreed s ≡ true) where
  start_prop : (o : ℕ) → o < 16 → props_of (server_of s) (λ p. p.start) o ≡ start_of s o
  unfolding props_of start_of
  start_prop o l = go (serves s.net.bits o) refl
    where
      go : (t : Bool) → serves s.net.bits o ≡ t → props_of (server_of s) (λ p. p.start) o ≡ start_of s o
      go true e = rw (e, ((agreed_out s a).every o l e).is_there)
      go false e = rw e

  concludes : use_props (server_of s) ≡ server_of (concluded s)
  unfolding use_props concluded view_of
  concludes =
      let e = largest_ext 16 _ _ start_prop in
      let f = tab_ext 16 _ _ start_prop in
      rw (e, f, plus (largest 16 (start_of s)))

-- what the lines of the NE handler before the own delivery leave; t has the new net view
module _ (t : State) where
  made : Proposal
  made = own_proposal Fast (next_number (opened t)) (opened t)

  number_is : (start_fa (server_of t)).prop_num ≡ next_number (opened t)
  unfolding start_fa props_of next_number opened
  number_is = plus _

  made_is_prop : proposal_fa (start_fa (server_of t)) ≡ made
  unfolding made proposal_fa start_fa used_props_of own_proposal opened
  made_is_prop = rw (← number_is)

  stored_is : store_prop (start_fa (server_of t)) made ≡ server_of (proposed Fast (next_number (opened t)) (opened t))
  unfolding made store_prop start_fa proposed own_proposal opened
  stored_is = rw (← number_is)

  others_are : others (start_fa (server_of t)) ≡ receives made
  unfolding made others start_fa receives own_proposal opened
  others_are = refl

  sent_is : send_start_change (start_fa (server_of t)) ++ send_proposal (start_fa (server_of t))
      ≡ map (addressed t.own) ((opens t).written ++ (proposes_fast (opened t)).written)
  unfolding made send_start_change send_proposal opens notice_of proposes_fast start_fa opened
  sent_is = rw (others_are, made_is_prop) (go (anyb 16 (receives made)))
    where
      go : (b : Bool) → (to_clients (notice (notice_of (opened t))) (local t.own t.net)
          ∷ ifb b (to_servers (proposal made) (receives made) ∷ []) [])
          ≡ (to_clients (notice (notice_of (opened t))) (local t.own t.net)
          ∷ map (addressed t.own) (ifb b (proposal made ∷ []) []))
      go true = refl
      go false = refl

-- The handlers, whatever stands for the three functions.
module _ (N : Server → Proposal → Bool) (S : Server → Proposal → Handled) (R : Server → Bool) where
  deliver_is : (s : State) → agreed s ≡ R (server_of s)
      → deliver_view N S R (server_of s) ≡ handled_of s.own (agreement_test s)
  unfolding deliver_view agreement_test send_view concluded view_of
  deliver_is s h = go (agreed s) refl
    where
      go : (t : Bool) → agreed s ≡ t → deliver_view N S R (server_of s) ≡ handled_of s.own (agreement_test s)
      go true e = rw (← h, e, concludes s e)
      go false e = rw (← h, e)

  -- they do what document 01's tests do, on a state s
  SameTests : State → Proposal → Type 0
  SameTests s p = matches_ns_view N S R (server_of s) p ≡ handled_of s.own (tests s)

  on_proposal_lem : (s : State) (p : Proposal)
      → (eqb p.members.bits s.net.bits ≡ true → SameTests (received s p) p)
      → on_proposal N S R (server_of s) p ≡ handled_of s.own (proposal_rule s p)
  unfolding SameTests on_proposal proposal_rule store_prop received
  on_proposal_lem s p h = go (eqb p.members.bits s.net.bits) refl
    where
      go : (t : Bool) → eqb p.members.bits s.net.bits ≡ t
          → on_proposal N S R (server_of s) p ≡ handled_of s.own (proposal_rule s p)
      go true e = rw e (h e)
      go false e = rw e

  -- the lines of the NE handler after the first; t has the new net view
  module _ (t : State) (h : SameTests (proposes_fast (opened t)).state (made t)) where
    delivered : on_proposal N S R (start_fa (server_of t)) (proposal_fa (start_fa (server_of t))) ≡ handled_of t.own
        (tests (proposes_fast (opened t)).state)
    unfolding SameTests on_proposal proposes_fast proposed opened
    delivered = rw (made_is_prop t, stored_is t, members) h
      where
        members : eqb (made t).members.bits t.net.bits ≡ true
        members = unfold made own_proposal in eq-eqb t.net.bits t.net.bits refl

    starts_are : starts_fa N S R (start_fa (server_of t)) ≡ handled_of t.own
        (and_then (opens t) (λ u. and_then (proposes_fast u) tests))
    unfolding starts_fa then_run and_then opens
    starts_are = rw (
      delivered,
      sent_is t,
      ← (map-append (addressed t.own) (proposes_fast (opened t)).written
          (tests (proposes_fast (opened t)).state).written),
    )

  on_ne_lem : (s : State) (n : Report)
      → (let t = with_net s (net_after s.net.bits n) in
      seated t ≡ true → SameTests (proposes_fast (opened t)).state (made t))
      → on_ne N S R (server_of s) n ≡ handled_of s.own (change_rule (with_net s (net_after s.net.bits n)))
  unfolding on_ne change_rule update_ns_view net_after with_net any_local seated
  on_ne_lem s n h = go (seated t) refl
    where
      t : State
      t = with_net s (net_after s.net.bits n)

      go : (b : Bool) → seated t ≡ b → ifb b (starts_fa N S R (start_fa (server_of t))) (nothing_sent (server_of t))
          ≡ handled_of s.own (ifb b (and_then (opens t) (λ u. and_then (proposes_fast u) tests)) (nothing_written t))
      go true e = starts_are t (h e)
      go false e = refl

-- the slow test keeps the own office and the last accepted numbers
slow_keeps : (s : State) → ((slow_test s).state.own ≡ s.own) × ((slow_test s).state.accepted ≡ s.accepted)
unfolding slow_test and_then opens opened proposes_slow proposed
slow_keeps s = go (slow_called s) s.mode
  where
    go : (t : Bool) (m : Mode) → let o = ifb t (and_then (begins_in m s) proposes_slow) (nothing_written s) in
        (o.state.own ≡ s.own) × (o.state.accepted ≡ s.accepted)
    go false m = (refl, refl)
    go true None = (refl, refl)
    go true Fast = (refl, refl)
    go true Slow = (refl, refl)

slow_is : (s : State) (p : Proposal)
    → ifb (needed s.accepted (server_of s) p) (slow_proposal s.accepted (server_of s) p)
    (nothing_sent (server_of s)) ≡ handled_of s.own (slow_test s)
unfolding needed slow_proposal slow_test
slow_is s p = go (slow_called s) refl
  where
    go : (t : Bool) → slow_called s ≡ t
        → ifb t (slow_proposal s.accepted (server_of s) p) (nothing_sent (server_of s)) ≡ handled_of s.own
        (slow_test s)
    go true e = rw e
    go false e = rw e

tests_are : (s : State) (p : Proposal)
    → SameTests (needed s.accepted) (slow_proposal s.accepted) (reached s.accepted) s p
unfolding SameTests matches_ns_view tests reached
tests_are s p =
    let k = slow_keeps s in
    let v = server_of (slow_test s).state in
    rw (slow_is s p, ran_then s.own s.accepted (slow_test s) agreement_test k.1)
    (then_same (handled_of s.own (slow_test s)) _ _
    (deliver_is _ _ _ (state_from s.accepted v) refl
    ∙ ap (λ (o : ℕ). handled_of o (agreement_test (state_from s.accepted v))) k.0))

tests_keep : (s : State) → (tests s).state.accepted ≡ s.accepted
unfolding tests and_then agreement_test concluded
tests_keep s =
    let k = (slow_keeps s).1 in
    if_cases (λ (o : Outcome). o.state.accepted ≡ s.accepted) (agreed (slow_test s).state) _ _ (λ e. k) (λ e. k)

change_keeps : (t : State) → (change_rule t).state.accepted ≡ t.accepted
unfolding change_rule and_then opens opened proposes_fast proposed
change_keeps t =
    if_cases (λ (o : Outcome). o.state.accepted ≡ t.accepted) (seated t) _ _
    (λ e. tests_keep (proposes_fast (opened t)).state) (λ e. refl)

proposal_keeps : (s : State) (p : Proposal) → (proposal_rule s p).state.accepted ≡ (received s p).accepted
unfolding proposal_rule
proposal_keeps s p =
    if_cases (λ (o : Outcome). o.state.accepted ≡ (received s p).accepted) (eqb p.members.bits s.net.bits) _ _
    (λ e. tests_keep (received s p)) (λ e. refl)

leaves : (own : ℕ) (accepted : List ℕ) (r : Handled) (o : Outcome) → o.state.accepted ≡ accepted
    → r ≡ handled_of own o → Leaves own accepted r o
leaves own accepted r o a e = rw e (record { state = rw (← a); sent = refl })

-- the handlers with document 01's slow agreement are the rules, on every state, for reports that change the net view;
-- the own delivery leaves the last accepted numbers
pub report_figure : (s : State) (n : Report) → repeats s n ≡ false
    → Leaves s.own s.accepted (on_ne01 s.accepted (server_of s) n) (report_rule s n)
unfolding proposes_fast proposed opened with_net
report_figure s n c = rw (change_rule_lem s n c) (leaves _ _ _ _ (change_keeps (with_net s (net_after s.net.bits n)))
    (on_ne_lem _ _ _ s n (λ e. tests_are _ _)))

-- where the paper would start an agreement once more, a repeat leaves every variable and sends nothing
pub repeat_figure : (s : State) (n : Report) → repeats s n ≡ true
    → Leaves s.own s.accepted (nothing_sent (server_of s)) (report_rule s n)
repeat_figure s n e = rw (repeat_rule s n e) (leaves _ _ _ (nothing_written s) refl refl)

pub proposal_figure : (s : State) (p : Proposal)
    → let accepted = tab 16 (upd (accepted_at s) p.sender p.number) in
    Leaves s.own accepted (on_proposal01 accepted (server_of s) p) (proposal_rule s p)
unfolding received
proposal_figure s p = leaves _ _ _ _ (proposal_keeps s p)
    (on_proposal_lem _ _ _ s p (λ e. tests_are (received s p) p))

-- Fast agreement as printed. It takes mode fast, which a report sets, that slow agreement is not called for, that the
-- own stored proposal is fast, and that those of the others have kind 1 or 2.
module _ (s : State) (m : s.mode ≡ Fast) (c : slow_called s ≡ false) (f : OwnFast s) (k : OthersKnown s) where
  kind_fast : (o : ℕ) → o < 16 → (stored_at s o).present ≡ true → (in_slot s o).members.bits ≡ s.net.bits
      → (in_slot s o).kind ≡ fast
  kind_fast o l h e = go (ℕ_discrete o s.own)
    where
      heard : (n : o ≡ s.own → ⊥) → ((in_slot s o).kind ≡ fast) ⊎ ((in_slot s o).kind ≡ slow)
          → (in_slot s o).kind ≡ fast
      heard n (inl e) = e
      heard n (inr w) =
          absurd ((not_called s c).no_slow m o l (record { another = n; is_there = h; same_members = e }) w)

      go : Dec (o ≡ s.own) → (in_slot s o).kind ≡ fast
      go (yes q) = rw q (f (rw q at l) (rw q at h))
      go (no n) = heard n (k o l n h)

  agrees_fast : (o : ℕ) → o < 16
      → (not (serves s.net.bits o) || agrees_kind s o)
      ≡ (not (serves s.net.bits o) || ((stored_at s o).present && eqb (in_slot s o).members.bits s.net.bits))
  unfolding agrees_kind
  agrees_fast o l = ap (λ (b : Bool). not (serves s.net.bits o) || b) (if_fast (stored_at s o).present _ _
      (λ p q. rw m (eq-eqb _ _ (kind_fast o l p (eqb-true _ _ q)))))
    where
      if_fast : (a b d : Bool) → (a ≡ true → d ≡ true → b ≡ true) → (a && b && d) ≡ (a && d)
      if_fast false b d h = refl
      if_fast true true d h = refl
      if_fast true false true h = h refl refl
      if_fast true false false h = refl

  fast_reached : agreed s ≡ reached_fa (server_of s)
  unfolding reached_fa agreed is_none
  fast_reached = go s.mode m
    where
      go : (x : Mode) → x ≡ Fast
          → (not (is_none x) && allb 16 (λ o. not (serves s.net.bits o) || agrees_in x s o)) ≡ reached_fa (server_of s)
      go Fast e = allb_ext 16 _ _ agrees_fast
      go None e = let z : ◌≡◌ {A = ℕ} 0 1 = cc in absurd (omega arith)
      go Slow e = let z : ◌≡◌ {A = ℕ} 0 1 = cc in absurd (omega arith)

  fast_tests : (p : Proposal) → SameTests never_sa no_sa reached_fa s p
  unfolding SameTests matches_ns_view then_run tests slow_test and_then
  fast_tests p = rw c (deliver_is never_sa no_sa reached_fa s fast_reached)

pub fast_proposal_figure : (s : State) (p : Proposal) → s.mode ≡ Fast
    → (p.members.bits ≡ s.net.bits → slow_called (received s p) ≡ false) → OwnFast s → OthersKnown s
    → (p.sender ≡ s.own → ⊥) → Known (keeping p)
    → Leaves s.own (received s p).accepted (fast_on_proposal (server_of s) p) (proposal_rule s p)
fast_proposal_figure s p m c f k n h = leaves _ _ _ _ (proposal_keeps s p)
    (on_proposal_lem never_sa no_sa reached_fa s p (λ e. unfold received in
    fast_tests (received s p) m (c (eqb-true _ _ e)) own_fast known p))
  where
    at : (o : ℕ) → o < 16 → upd (stored_at s) p.sender (keeping p) o ≡ stored_at (received s p) o
    at o l = sym ((received_reads s p).stored_is o l)

    own_fast : OwnFast (received s p)
    own_fast = unfold received in
        λ l. subst IsFast (sym (upd_other (stored_at s) p.sender (keeping p) s.own (λ e. n (sym e)))
        ∙ at s.own l) (f l)

    known : OthersKnown (received s p)
    known = unfold received in λ o l q. subst Known (at o l)
        (upd_cases (λ (i : ℕ) (v : Slot). (i ≡ s.own → ⊥) → Known v) (stored_at s) p.sender (keeping p) o (λ d. h)
        (λ d. k o l) q)

pub fast_report_figure : (s : State) (n : Report) → repeats s n ≡ false → let t =
    with_net s (net_after s.net.bits n) in
    (seated t ≡ true → slow_called (proposes_fast (opened t)).state ≡ false) → OthersKnown s
    → Leaves s.own s.accepted (fast_on_ne (server_of s) n) (report_rule s n)
unfolding proposes_fast proposed opened with_net made own_proposal
fast_report_figure s n d c k = rw (change_rule_lem s n d) (leaves _ _ _ _ (change_keeps t)
    (on_ne_lem never_sa no_sa reached_fa s n (λ e. fast_tests u refl (c e) own_fast known (made t))))
  where
    t : State
    t = with_net s (net_after s.net.bits n)

    u : State
    u = (proposes_fast (opened t)).state

    at : (o : ℕ) → o < 16 → upd (stored_at s) s.own (keeping (made t)) o ≡ stored_at u o
    at o l = sym ((proposed_reads (opened t) Fast (next_number (opened t))).stored_is o l)

    own_fast : OwnFast u
    own_fast l = subst IsFast (sym (upd_same (stored_at s) s.own (keeping (made t))) ∙ at s.own l) (λ e. refl)

    known : OthersKnown u
    known o l q = subst Known (sym (upd_other (stored_at s) s.own (keeping (made t)) o q) ∙ at o l) (k o l q)
