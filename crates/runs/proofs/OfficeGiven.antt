-- The numbers that one office gives out: each proposal number, start number and view number that leaves is above those
-- that left before, cuts or not.
use mathlib.Core.Path.{◌≡◌, refl, sym, ap, subst, ◌∙◌}
use mathlib.Core.Bool.{Bool, true, false}
use mathlib.Core.Logic.{⊎_elim}
use mathlib.Core.List.Memᴰ
use mathlib.Core.List.{List, [], ◌∷◌, ◌++◌, Memᴰ}
use Prim.Native.Nat.{ℕ, zero, suc, ◌≤◌, ◌<◌}
use native.Mathlib.Omega.{arith}
use lib.ListN.{take, get_or}
use Rattle.laws.proofs.Lists.{every_head, every_tail}
use Rattle.laws.proofs.Fin.{largest_le, true_false}
use Rattle.laws.proofs.Tab.{get_or_tab}
use Rattle.laws.proofs.Upd.{upd_same, upd_other}
use Rattle.laws.specs.Upd.{ifb}
use Rattle.records.specs.declared.Report.{Report}
use Rattle.records.specs.declared.Proposal.{Proposal}
use Rattle.records.specs.declared.Notice.{Notice}
use Rattle.records.specs.declared.View.{View}
use Rattle.rules.specs.State.{Mode, None, Fast, Slow, Slot, State, keeping, stored_at}
use Rattle.rules.specs.Rules.{Written, notice, proposal, view, Outcome, nothing_written, and_then, fresh, restarted}
use Rattle.rules.specs.Rules.{in_slot, net_after, with_net, seated, opened, notice_of, opens, next_number, own_proposal}
use Rattle.rules.specs.Rules.{proposed, has_recipient, proposes_fast, received, begins_in, slow_number, proposes_slow}
use Rattle.rules.specs.Rules.{agreed, start_of, view_of, report_rule, proposal_rule}
use Rattle.rules.specs.Refusals.{Event, a_report, a_proposal, refusal_of, rule_of}
use Rattle.rule_laws.proofs.Parts.{restarted_reads, restarted_view, fresh_restarted, proposed_reads}
use Rattle.rule_laws.proofs.Parts.{received_reads, concluded_reads, made_is}
use Rattle.rule_laws.proofs.Tests.{agreed_out, next_above, slow_above}
use Rattle.rule_laws.proofs.Steps.{Passes, check_facts, take_by}
use Rattle.rule_laws.proofs.Walk.{slow_round, concludes, Tested, staged_report, staged_proposal}
use Rattle.runs.specs.Office.{Input, answer_to, next_state, Turn, left_over, TurnsAbove, of_proposal}
use Rattle.runs.specs.Office.{of_notice, of_view, picked, Ascends, no_number, a_number, NumbersOnce}
use Rattle.runs.proofs.OfficeRuns.{Beside}
use Rattle.runs.proofs.OfficeTurns.{Any, any_turns, AllUpTo, Companion, beside_turns}

-- an office, and the last numbers that left it: of a proposal, of a start notice, of a view
pub record Given : Type 0 where
  pub office : ℕ
  pub proposed : ℕ
  pub begun : ℕ
  pub viewed : ℕ

-- each number is above the last one of its kind, and the office's own start number in a view is not below the last
-- view
pub data GivesOut : Given → List Written → Given → Type 0 where
  gives_none : {g : Given} → GivesOut g [] g
  gives_notice : {g h : Given} {n : Notice} {ws : List Written} → g.begun < n.start
      → GivesOut (record { office = g.office; proposed = g.proposed; begun = n.start; viewed = g.viewed }) ws h
      → GivesOut g (notice n ∷ ws) h
  gives_proposal : {g h : Given} {p : Proposal} {ws : List Written} → g.proposed < p.number
      → GivesOut (record { office = g.office; proposed = p.number; begun = g.begun; viewed = g.viewed }) ws h
      → GivesOut g (proposal p ∷ ws) h
  gives_view : {g h : Given} {v : View} {ws : List Written} → g.viewed < v.number
      → g.viewed ≤ get_or v.starts g.office 0
      → GivesOut (record { office = g.office; proposed = g.proposed; begun = g.begun; viewed = v.number }) ws h
      → GivesOut g (view v ∷ ws) h

gives_then : {g h k : Given} {a b : List Written} → GivesOut g a h → GivesOut h b k → GivesOut g (a ++ b) k
gives_then gives_none y = y
gives_then (gives_notice l x) y = gives_notice l (gives_then x y)
gives_then (gives_proposal l x) y = gives_proposal l (gives_then x y)
gives_then (gives_view l m x) y = gives_view l m (gives_then x y)

gives_take : (k : ℕ) {g h : Given} {ws : List Written} → GivesOut g ws h → (e : Given) × GivesOut g (take k ws) e
gives_take zero {g} x = (g, gives_none)
gives_take (suc k) {g} gives_none = (g, gives_none)
gives_take (suc k) (gives_notice l x) = let y = gives_take k x in (y.0, gives_notice l y.1)
gives_take (suc k) (gives_proposal l x) = let y = gives_take k x in (y.0, gives_proposal l y.1)
gives_take (suc k) (gives_view l m x) = let y = gives_take k x in (y.0, gives_view l m y.1)

pub gives_office : {g h : Given} {ws : List Written} → GivesOut g ws h → h.office ≡ g.office
gives_office gives_none = refl
gives_office (gives_notice l x) = gives_office x
gives_office (gives_proposal l x) = gives_office x
gives_office (gives_view l m x) = gives_office x

pub record UpTo (g : Given) (m : ℕ) : Type 0 where
  pub proposed : g.proposed ≤ m
  pub begun : g.begun ≤ m
  pub viewed : g.viewed ≤ m

gives_up_to : {g h : Given} {ws : List Written} (m : ℕ) → GivesOut g ws h → UpTo g m → AllUpTo m ws → UpTo h m
gives_up_to m gives_none u e = u
gives_up_to m (gives_notice l x) u e =
    gives_up_to m x (record { proposed = u.proposed; begun = every_head e; viewed = u.viewed }) (every_tail e)
gives_up_to m (gives_proposal l x) u e =
    gives_up_to m x (record { proposed = every_head e; begun = u.begun; viewed = u.viewed }) (every_tail e)
gives_up_to m (gives_view l k x) u e =
    gives_up_to m x (record { proposed = u.proposed; begun = u.begun; viewed = every_head e }) (every_tail e)

-- no number that left is above the office's
record Behind (g : Given) (s : State) : Type 0 where
  own : s.own ≡ g.office
  office : s.own < 16
  number : g.proposed ≤ s.number
  start : g.begun ≤ s.start
  view : g.viewed ≤ s.view.number

-- and in mode fast or slow the start number has reached the view number, and while the office has a seat the own
-- proposal has it
pub record Stands (g : Given) (s : State) : Type 0 where
  behind : Behind g s
  reached : (s.mode ≡ None → ⊥) → s.view.number ≤ s.start
  own_start : (s.mode ≡ None → ⊥) → seated s ≡ true → (in_slot s s.own).start ≡ s.start

record Opened (g : Given) (s : State) : Type 0 where
  behind : Behind g s
  reached : s.view.number ≤ s.start

abbrev Stand : Given → Outcome → Type 0
Stand g o = Beside GivesOut Stands g o.written o.state

opens_stand : (g : Given) (s : State) → Behind g s → Beside GivesOut Opened g (opens s).written (opened s)
unfolding opens opened notice_of
opens_stand g s b =
    let x = b.start in
    record {
      then = record { office = g.office; proposed = g.proposed; begun = (opened s).start; viewed = g.viewed };
      told = gives_notice {g = g} {n = notice_of (opened s)} (omega arith) gives_none;
      holds = record {
        behind = record {
          own = b.own;
          office = b.office;
          number = b.number;
          start = omega arith;
          view = b.view;
        };
        reached = omega arith;
      };
    }

-- a proposal made with number n, which leaves or not
proposed_stands : (g : Given) (m : Mode) (n : ℕ) (s : State) → Opened g s → g.proposed ≤ n → (k : ℕ) → k ≤ n
    → Stands (record { office = g.office; proposed = k; begun = g.begun; viewed = g.viewed }) (proposed m n s)
proposed_stands g m n s h l k e =
    let r = proposed_reads s m n in
    let q = r.stored_is s.own h.behind.office ∙ upd_same (stored_at s) s.own (keeping (own_proposal m n s)) in
    record {
      behind = record {
        own = r.own_is ∙ h.behind.own;
        office = let x = r.own_is in let y = h.behind.office in omega arith;
        number = rw r.number_is e;
        start = rw r.start_is h.behind.start;
        view = rw r.view_is h.behind.view;
      };
      reached = λ y. rw (r.view_is, r.start_is) h.reached;
      own_start = λ y z. rw r.own_is
          (ap (λ (w : Slot). w.proposal.start) q ∙ (made_is s m n).3 ∙ sym r.start_is);
    }

made_number : (m : Mode) (n : ℕ) (s : State) → (own_proposal m n s).number ≡ n
made_number m n s = (made_is s m n).4

slow_stands : (g : Given) (s : State) → Opened g s → Stand g (proposes_slow s)
unfolding proposes_slow
slow_stands g s h =
    let l = slow_above s in
    let b = h.behind.number in
    let e = made_number Slow (slow_number s) s in
    record {
      then = record {
        office = g.office;
        proposed = (own_proposal Slow (slow_number s) s).number;
        begun = g.begun;
        viewed = g.viewed;
      };
      told = gives_proposal {g = g} {p = own_proposal Slow (slow_number s) s} (omega arith) gives_none;
      holds = proposed_stands g Slow (slow_number s) s h (omega arith) _ (omega arith);
    }

fast_stands : (g : Given) (s : State) → Opened g s → Stand g (proposes_fast s)
unfolding proposes_fast
fast_stands g s h = go (has_recipient p) refl
  where
    p : Proposal
    p = own_proposal Fast (next_number s) s

    go : (u : Bool) → has_recipient p ≡ u
        → Beside GivesOut Stands g (ifb u (proposal p ∷ []) []) (proposed Fast (next_number s) s)
    go true q =
        let l = next_above s in
        let b = h.behind.number in
        let e = made_number Fast (next_number s) s in
        record {
          then = record { office = g.office; proposed = p.number; begun = g.begun; viewed = g.viewed };
          told = gives_proposal {g = g} {p = p} (omega arith) gives_none;
          holds = proposed_stands g Fast (next_number s) s h (omega arith) p.number (omega arith);
        }
    go false q =
        let l = next_above s in
        let b = h.behind.number in
        record {
          then = g;
          told = gives_none;
          holds = proposed_stands g Fast (next_number s) s h (omega arith) g.proposed (omega arith);
        }

received_stands : (g : Given) (s : State) (p : Proposal) → (p.sender ≡ s.own → ⊥) → Stands g s
    → Stands g (received s p)
received_stands g s p n f =
    let r = received_reads s p in
    let q = r.stored_is s.own f.behind.office
    ∙ upd_other (stored_at s) p.sender (keeping p) s.own (λ e. n (sym e)) in
    let busy : ((received s p).mode ≡ None → ⊥) → s.mode ≡ None → ⊥ = λ y e. y (r.mode_is ∙ e) in
    record {
      behind = record {
        own = r.own_is ∙ f.behind.own;
        office = let x = r.own_is in let y = f.behind.office in omega arith;
        number = rw r.number_is f.behind.number;
        start = rw r.start_is f.behind.start;
        view = rw r.view_is f.behind.view;
      };
      reached = λ y. rw (r.view_is, r.start_is) (f.reached (busy y));
      own_start = λ y z. rw (r.own_is, r.start_is)
          (ap (λ (w : Slot). w.proposal.start) q
          ∙ f.own_start (busy y) (unfold seated in rw (r.net_is, r.own_is) at z));
    }

concluded_stands : (g : Given) (s : State) → Stands g s → agreed s ≡ true → seated s ≡ true → Stand g (concludes s)
concluded_stands g s f agrees seat_in =
    let r = concluded_reads s in
    let b = f.behind in
    let v = b.view in
    let w = f.reached busy in
    let x = above in
    let y = in_view in
    record {
      then = record { office = g.office; proposed = g.proposed; begun = g.begun; viewed = (view_of s).number };
      told = gives_view {g = g} {v = view_of s} (omega arith) (omega arith) gives_none;
      holds = record {
        behind = record {
          own = r.own_is ∙ b.own;
          office = let y = r.own_is in let z = b.office in omega arith;
          number = rw r.number_is b.number;
          start = rw r.start_is b.start;
          view = rw r.view_is (omega arith);
        };
        reached = λ y. absurd (y r.mode_is);
        own_start = λ y. absurd (y r.mode_is);
      };
    }
  where
    busy : s.mode ≡ None → ⊥
    busy = (agreed_out s agrees).busy

    own : start_of s s.own ≡ s.start
    own = unfold start_of seated in rw seat_in (f.own_start busy seat_in)

    in_view : get_or (view_of s).starts g.office 0 ≡ s.start
    in_view = unfold view_of in
        get_or_tab 16 (start_of s) g.office 0 (let x = f.behind.own in let y = f.behind.office in omega arith)
        ∙ ap (start_of s) (sym f.behind.own) ∙ own

    above : s.start < (view_of s).number
    above = unfold view_of in let x = largest_le 16 (start_of s) s.own f.behind.office in let y = own in
        omega arith

stand_then : {g : Given} {o : Outcome} (f : State → Outcome) (x : Stand g o) → Stand x.then (f o.state)
    → Stand g (and_then o f)
unfolding and_then
stand_then f x y = record { then = y.then; told = gives_then x.told y.told; holds = y.holds }

stays : {g : Given} {s : State} → Stands g s → Stand g (nothing_written s)
stays {g} f = record { then = g; told = gives_none; holds = f }

round_stands : (m : Mode) (g : Given) (s : State) → s.mode ≡ m → Stands g s
    → Stand g (and_then (begins_in m s) proposes_slow)
unfolding and_then opens
round_stands None g s e f =
    let x = opens_stand g s f.behind in
    let y = slow_stands x.then (opened s) x.holds in
    record { then = y.then; told = gives_then x.told y.told; holds = y.holds }
round_stands Fast g s e f =
    slow_stands g s (record {
      behind = f.behind;
      reached = f.reached (λ n. let z : ◌≡◌ {A = ℕ} 0 1 = cc in omega arith);
    })
round_stands Slow g s e f =
    slow_stands g s (record {
      behind = f.behind;
      reached = f.reached (λ n. let z : ◌≡◌ {A = ℕ} 0 1 = cc in omega arith);
    })

slow_seated : (m : Mode) (s : State) → seated (and_then (begins_in m s) proposes_slow).state ≡ seated s
unfolding and_then opens opened proposes_slow proposed seated
slow_seated None s = refl
slow_seated Fast s = refl
slow_seated Slow s = refl

record Between (g : Given) (o : Outcome) : Type 0 where
  seat_in : seated o.state ≡ true
  stand : Stand g o

stages : (g : Given) → Tested (Between g) (Between g) (Stand g)
stages g = record {
  called = λ o a e. record {
    seat_in = unfold and_then in slow_seated o.state.mode o.state ∙ a.seat_in;
    stand = stand_then slow_round a.stand
        (round_stands o.state.mode a.stand.then o.state refl a.stand.holds);
  };
  uncalled = λ o a e. a;
  agrees = λ o a e. stand_then concludes a.stand
      (concluded_stands a.stand.then o.state a.stand.holds e a.seat_in);
  unagreed = λ o a e. a.stand;
}

report_stands : (g : Given) (s : State) (r : Report) → Stands g s → Stand g (report_rule s r)
report_stands g s r f = staged_report (stages g) s r (λ e. stays f) unseated_stands seated_stands
  where
    t : State
    t = with_net s (net_after s.net.bits r)

    b : Behind g t
    b = unfold with_net in
        record {
          own = f.behind.own;
          office = f.behind.office;
          number = f.behind.number;
          start = f.behind.start;
          view = f.behind.view;
        }

    unseated_stands : seated t ≡ false → Stand g (nothing_written t)
    unseated_stands e = stays
        (record { behind = b; reached = unfold with_net in f.reached; own_start = λ y z. absurd (true_false _ z e) })

    seated_stands : seated t ≡ true → Between g (and_then (opens t) proposes_fast)
    seated_stands e = record { seat_in = same; stand = stand_both }
      where
        same : seated (and_then (opens t) proposes_fast).state ≡ true
        same = unfold and_then opens opened proposes_fast proposed seated in e

        stand_both : Stand g (and_then (opens t) proposes_fast)
        stand_both = unfold and_then opens in
            let x = opens_stand g t b in
            let y = fast_stands x.then (opened t) x.holds in
            record { then = y.then; told = gives_then x.told y.told; holds = y.holds }

proposal_stands : (g : Given) (s : State) (p : Proposal) → Passes s p → Stands g s → Stand g (proposal_rule s p)
proposal_stands g s p c f =
    let x = received_stands g s p c.other f in
    staged_proposal (stages g) s p (λ e. stays x)
    (λ e. record { seat_in = unfold seated received in rw e at c.own_seat; stand = stays x })

event_stands : (g : Given) (s : State) (e : Event) → refusal_of s e ≡ 0 → Stands g s → Stand g (rule_of s e)
event_stands g s (a_report r) z f = report_stands g s r f
event_stands g s (a_proposal p) z f = proposal_stands g s p (check_facts s p z) f

-- any answer
answer_stands : (g : Given) (s : State) (h : Input) → Stands g s
    → Beside GivesOut Stands g (answer_to s h).written (next_state s h)
unfolding answer_to
answer_stands g s h f =
    take_by h.office s h.event h.room (Beside GivesOut Stands g)
    (record { then = g; told = gives_none; holds = f })
    (λ a. event_stands g s h.event a.acts.passes f)

-- a restart
restart_stands : (g : Given) (own m : ℕ) → own ≡ g.office → own < 16 → UpTo g m → Stands g (restarted own m)
restart_stands g own m is lt u =
    let r = restarted_reads own m in
    let v = restarted_view own m in
    record {
      behind = record {
        own = r.own_is ∙ is;
        office = let x = r.own_is in omega arith;
        number = rw r.number_is u.proposed;
        start = rw r.start_is u.begun;
        view = rw v u.viewed;
      };
      reached = λ y. absurd (y r.mode_is);
      own_start = λ y. absurd (y r.mode_is);
    }

abbrev pub nothing_given : ℕ → Given
nothing_given own = record { office = own; proposed = 0; begun = 0; viewed = 0 }

-- no last number falls
gives_up : {g h : Given} {ws : List Written} → GivesOut g ws h → (g.proposed ≤ h.proposed) × (g.viewed ≤ h.viewed)
gives_up gives_none = (omega arith, omega arith)
gives_up (gives_notice l x) = gives_up x
gives_up (gives_proposal l x) = let y = gives_up x in let a = y.0 in (omega arith, y.1)
gives_up (gives_view l m x) = let y = gives_up x in let a = y.1 in (y.0, omega arith)

-- a proposal that is given out is above the last before it, and not above the last; two with one number are one
not_proposal : {p : Proposal} {n : Notice} → proposal p ≡ notice n → ⊥
not_proposal e = let z : ◌≡◌ {A = ℕ} 0 1 = cc in omega arith

not_viewed : {p : Proposal} {v : View} → proposal p ≡ view v → ⊥
not_viewed e = let z : ◌≡◌ {A = ℕ} 0 1 = cc in omega arith

not_noticed : {v : View} {n : Notice} → view v ≡ notice n → ⊥
not_noticed e = let z : ◌≡◌ {A = ℕ} 0 1 = cc in omega arith

same_proposal : {p q : Proposal} → proposal p ≡ proposal q → p ≡ q
same_proposal e = cc

same_view : {v x : View} → view v ≡ view x → v ≡ x
same_view e = cc

pub gives_proposed : {g h : Given} {ws : List Written} (p : Proposal) → GivesOut g ws h → Memᴰ (proposal p) ws
    → (g.proposed < p.number) × (p.number ≤ h.proposed)
gives_proposed p gives_none m = absurd (Memᴰ.not-nil m)
gives_proposed p (gives_notice l x) m =
    ⊎_elim (λ e. absurd (not_proposal e)) (λ k. gives_proposed p x k) (Memᴰ.cases_cons m)
gives_proposed p (gives_view l i x) m =
    ⊎_elim (λ e. absurd (not_viewed e)) (λ k. gives_proposed p x k) (Memᴰ.cases_cons m)
gives_proposed p (gives_proposal l x) m =
    ⊎_elim
    (λ e. let z = ap (λ (q : Proposal). q.number) (same_proposal e) in let y = (gives_up x).0 in
    (omega arith, omega arith))
    (λ k. let y = gives_proposed p x k in let a = y.0 in (omega arith, y.1)) (Memᴰ.cases_cons m)

pub gives_once : {g h : Given} {ws : List Written} (p q : Proposal) → GivesOut g ws h → Memᴰ (proposal p) ws
    → Memᴰ (proposal q) ws → p.number ≡ q.number → p ≡ q
gives_once p q gives_none m n e = absurd (Memᴰ.not-nil m)
gives_once p q (gives_notice l x) m n e =
    ⊎_elim (λ a. absurd (not_proposal a)) (λ a.
    ⊎_elim (λ b. absurd (not_proposal b)) (λ b. gives_once p q x a b e) (Memᴰ.cases_cons n))
    (Memᴰ.cases_cons m)
gives_once p q (gives_view l i x) m n e =
    ⊎_elim (λ a. absurd (not_viewed a)) (λ a.
    ⊎_elim (λ b. absurd (not_viewed b)) (λ b. gives_once p q x a b e) (Memᴰ.cases_cons n))
    (Memᴰ.cases_cons m)
gives_once p q (gives_proposal l x) m n e =
    ⊎_elim
    (λ a. ⊎_elim (λ b. same_proposal a ∙ sym (same_proposal b))
    (λ b. let y = (gives_proposed q x b).0 in let z = ap (λ (r : Proposal). r.number) (same_proposal a) in
    absurd (omega arith)) (Memᴰ.cases_cons n))
    (λ a. ⊎_elim
    (λ b. let y = (gives_proposed p x a).0 in let z = ap (λ (r : Proposal). r.number) (same_proposal b) in
    absurd (omega arith)) (λ b. gives_once p q x a b e) (Memᴰ.cases_cons n)) (Memᴰ.cases_cons m)

-- a view that is given out has the office's own start number not below the last view before it, and is not above the
-- last
pub gives_viewed : {g h : Given} {ws : List Written} (v : View) → GivesOut g ws h → Memᴰ (view v) ws
    → (g.viewed ≤ get_or v.starts g.office 0) × (v.number ≤ h.viewed)
gives_viewed v gives_none m = absurd (Memᴰ.not-nil m)
gives_viewed v (gives_notice l x) m =
    ⊎_elim (λ e. absurd (not_noticed e)) (λ k. gives_viewed v x k) (Memᴰ.cases_cons m)
gives_viewed v (gives_proposal l x) m =
    ⊎_elim (λ e. absurd (not_viewed (sym e))) (λ k. gives_viewed v x k) (Memᴰ.cases_cons m)
gives_viewed {g} v (gives_view l i x) m =
    ⊎_elim
    (λ e. let z = ap (λ (u : View). u.number) (same_view e) in let y = (gives_up x).1 in
    (subst (λ (u : View). g.viewed ≤ get_or u.starts g.office 0) (sym (same_view e)) i, omega arith))
    (λ k. let y = gives_viewed v x k in let a = y.0 in (omega arith, y.1)) (Memᴰ.cases_cons m)

-- the numbers that left, beside their office
pub giving : Companion GivesOut Stands UpTo Any
giving = record {
  nothing_sent_lem = λ c. gives_none;
  and_more = λ c d e a b. gives_then;
  cut_short = λ c d ws k. gives_take k;
  bounded = λ c d ws m. gives_up_to m;
  again = λ c d s ws m p t u l.
      restart_stands d s.own m (p.behind.own ∙ sym (gives_office t)) p.behind.office u;
  keeps = λ c s h i. answer_stands c s h;
}

pub fresh_stands : (own : ℕ) → own < 16 → Stands (nothing_given own) (fresh own)
fresh_stands own lt = rw (fresh_restarted own)
    (restart_stands (nothing_given own) own 0 refl lt
    (record { proposed = omega arith; begun = omega arith; viewed = omega arith }))

pub given_low : (own m : ℕ) → UpTo (nothing_given own) m
given_low own m = record { proposed = omega arith; begun = omega arith; viewed = omega arith }

-- what rises, kind by kind
proposals_ascend : {g h : Given} {ws : List Written} → GivesOut g ws h → Ascends g.proposed (picked of_proposal ws)
unfolding picked
proposals_ascend gives_none = no_number
proposals_ascend (gives_notice l x) = proposals_ascend x
proposals_ascend (gives_proposal l x) = a_number l (proposals_ascend x)
proposals_ascend (gives_view l m x) = proposals_ascend x

notices_ascend : {g h : Given} {ws : List Written} → GivesOut g ws h → Ascends g.begun (picked of_notice ws)
unfolding picked
notices_ascend gives_none = no_number
notices_ascend (gives_notice l x) = a_number l (notices_ascend x)
notices_ascend (gives_proposal l x) = notices_ascend x
notices_ascend (gives_view l m x) = notices_ascend x

views_ascend : {g h : Given} {ws : List Written} → GivesOut g ws h → Ascends g.viewed (picked of_view ws)
unfolding picked
views_ascend gives_none = no_number
views_ascend (gives_notice l x) = views_ascend x
views_ascend (gives_proposal l x) = views_ascend x
views_ascend (gives_view l m x) = a_number l (views_ascend x)

-- From a fresh office, whatever is handed to it and wherever it is cut off, if it always begins again at or above
-- every number that left.
pub numbers_once : (own : ℕ) → own < 16 → (ts : List Turn) → TurnsAbove (fresh own) [] ts
    → NumbersOnce (left_over (fresh own) ts)
numbers_once own lt ts a =
    let x = beside_turns giving (nothing_given own) (fresh own) [] ts (any_turns ts) (fresh_stands own lt)
    (λ m e. given_low own m) a in
    record { proposals = proposals_ascend x.1; notices = notices_ascend x.1; views = views_ascend x.1 }
