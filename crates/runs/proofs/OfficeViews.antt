-- What a view counted, and that no proposal serves two views of one office.
use mathlib.Core.Path.{◌≡◌, refl, sym, ap, subst, ◌∙◌}
use mathlib.Core.Bool.{Bool, true, false}
use mathlib.Core.Logic.{◌⊎◌, inl, inr}
use mathlib.Core.List.Memᴰ
use mathlib.Core.List.{List, [], ◌∷◌, ◌++◌, Memᴰ}
use Prim.Native.Nat.{ℕ, ◌+◌, ◌≤◌, ◌<◌}
use native.Mathlib.Omega.{arith}
use native.Mathlib.Nat.{le_trans}
use lib.ListN.{get_or}
use Rattle.laws.specs.Lists.{Every, none, more}
use Rattle.laws.proofs.Lists.{every_append, every_at}
use Rattle.laws.proofs.Tab.{get_or_tab}
use Rattle.laws.specs.Fin.{largest}
use Rattle.laws.proofs.Fin.{if_cases, true_false, largest_le}
use Rattle.seats.specs.Offices.{serves}
use Rattle.records.specs.declared.Report.{Report}
use Rattle.records.specs.declared.Proposal.{Proposal}
use Rattle.records.specs.declared.View.{View}
use Rattle.rules.specs.State.{Mode, None, Fast, Slow, Slot, State, stored_at, used_at}
use Rattle.rules.specs.Rules.{Written, notice, proposal, view, Outcome, nothing_written, and_then, fresh, net_after}
use Rattle.rules.specs.Rules.{with_net, opened, notice_of, opens, next_number, proposes_fast, received, in_slot}
use Rattle.rules.specs.Rules.{slow_called, begins_in, slow_number, proposes_slow, slow_test, agreed, start_of, view_of}
use Rattle.rules.specs.Rules.{concluded, report_rule, proposal_rule}
use Rattle.rules.specs.Refusals.{Event, a_report, a_proposal, refusal_of, rule_of}
use Rattle.rule_laws.proofs.Parts.{fresh_reads, concluded_reads}
use Rattle.rule_laws.proofs.Tests.{next_above, slow_above, agreed_out}
use Rattle.rule_laws.proofs.Steps.{check_facts, take_by}
use Rattle.rule_laws.proofs.Written.{NoView, fast_every}
use Rattle.rule_laws.proofs.Stored.{Keeps, keeps_none, keeps_open, keeps_fast, keeps_then, keeps_more, keeps_round}
use Rattle.rule_laws.proofs.Walk.{arrived, slow_round, concludes, Tested, staged_report, staged_proposal}
use Rattle.runs.specs.Office.{Input, answer_to, next_state, LogEntry, answer_of, log_of, Before, tested_in, tested_at}
use Rattle.runs.specs.Office.{CountedAt}
use Rattle.runs.proofs.OfficeRuns.{log_keeps, before_first, before_second}
use Rattle.runs.proofs.OfficeNumbers.{last_of, SlotAfter, same, empty, newer, Renews, renews_none, renews_then}
use Rattle.runs.proofs.OfficeNumbers.{renews_net, renews_opened, renews_proposed, renews_received, renews_concluded}

-- the parts of an event before the agreement test write no view
opens_no_view : (s : State) → Every NoView (opens s).written
unfolding opens
opens_no_view s = more {a = notice (notice_of (opened s))} tt none

slow_no_view : (s : State) → Every NoView (slow_round s).written
unfolding and_then proposes_slow
slow_no_view s = every_append (go s.mode) (more {a = proposal _} tt none)
  where
    go : (m : Mode) → Every NoView (begins_in m s).written
    go None = opens_no_view s
    go Fast = none
    go Slow = none

-- and renew the stored proposals
fast_renews : (s : State) → Renews s (proposes_fast s).state
unfolding proposes_fast
fast_renews s = renews_proposed s Fast (next_number s) (next_above s)

slow_renews : (s : State) → Renews s (slow_round s).state
unfolding and_then proposes_slow opens
slow_renews s = go s.mode
  where
    proposes : (u : State) → Renews u (proposes_slow u).state
    proposes u = unfold proposes_slow in renews_proposed u Slow (slow_number u) (slow_above u)

    go : (m : Mode) → Renews s (proposes_slow (begins_in m s).state).state
    go None = renews_then (renews_opened s) (proposes (opened s))
    go Fast = proposes s
    go Slow = proposes s

-- a view v among the records ws, which leaves the state t: the agreement test looked at x, and a is the state in which
-- the event arrived
pub record ViewSent (s a x : State) (v : View) (ws : List Written) (t : State) : Type 0 where
  pub keeps : Keeps a (record { state = x; written = ws })
  pub renews : Renews s x
  pub agrees : agreed x ≡ true
  pub is : v ≡ view_of x
  pub state : t ≡ concluded x

-- an event on s, at whose agreement test the state is x
pub record EventDone (s a x : State) (o : Outcome) : Type 0 where
  pub renews : Renews s o.state
  pub shows : (v : View) → Memᴰ (view v) o.written → ViewSent s a x v o.written o.state

no_view_ends : (s a x : State) (o : Outcome) → Renews s o.state → Every NoView o.written → EventDone s a x o
no_view_ends s a x o r n = record { renews = r; shows = λ v m. absurd (every_at o.written n m) }

slow_called_lem : (u : State) → slow_called u ≡ true → slow_test u ≡ slow_round u
unfolding slow_test
slow_called_lem u e = rw e

slow_uncalled : (u : State) → slow_called u ≡ false → slow_test u ≡ nothing_written u
unfolding slow_test
slow_uncalled u e = rw e

-- from the state u that the tests start with
module _ (s a u : State) (r : Renews s u) where
  abbrev x : State
  x = (slow_test u).state

  x_renews : Renews s x
  unfolding slow_test
  x_renews = renews_then r
      (if_cases (λ (o : Outcome). Renews u o.state) (slow_called u) _ _ (λ e. slow_renews u) (λ e. renews_none u))

  record Has (y : State) (o : Outcome) : Type 0 where
    keeps : Keeps a o
    is : o.state ≡ y
    no_view : Every NoView o.written

  called : (o : Outcome) → Has u o → slow_called o.state ≡ true → Has x (and_then o slow_round)
  unfolding and_then
  called o h e = record {
    keeps = keeps_then a o slow_round h.keeps (keeps_round o.state);
    is = ap (λ (y : State). (slow_round y).state) h.is
        ∙ sym (ap (λ (q : Outcome). q.state) (slow_called_lem u (rw h.is at e)));
    no_view = every_append h.no_view (slow_no_view o.state);
  }

  concluding : (o : Outcome) → Has x o → agreed o.state ≡ true → EventDone s a x (and_then o concludes)
  unfolding and_then
  concluding o h e = record {
    renews = rw h.is (renews_then x_renews (renews_concluded x));
    shows = λ v m. go v (Memᴰ.append_cases o.written m);
  }
    where
      all : List Written
      all = o.written ++ (view (view_of o.state) ∷ [])

      go : (v : View) → Memᴰ (view v) o.written ⊎ Memᴰ (view v) (view (view_of o.state) ∷ [])
          → ViewSent s a x v all (concluded o.state)
      go v (inl m) = absurd (every_at o.written h.no_view m)
      go v (inr m) =
          let q = Memᴰ.eq_of_singleton m in
          let i : v ≡ view_of o.state = cc in
          record {
            keeps = subst (λ (y : State). Keeps a (record { state = y; written = all })) h.is
                (keeps_more a o (view (view_of o.state) ∷ []) h.keeps);
            renews = x_renews;
            agrees = rw h.is at e;
            is = i ∙ ap view_of h.is;
            state = ap concluded h.is;
          }

  stages : Tested (Has u) (Has x) (EventDone s a x)
  stages = record {
    called = called;
    uncalled = λ o h e. record {
      keeps = h.keeps;
      is = h.is ∙ sym (ap (λ (q : Outcome). q.state) (slow_uncalled u (rw h.is at e)));
      no_view = h.no_view;
    };
    agrees = concluding;
    unagreed = λ o h e. no_view_ends s a x o (rw h.is x_renews) h.no_view;
  }

-- every accepted event, as its first stage leaves it
report_ends : (s : State) (r : Report)
    → EventDone s (arrived s (a_report r)) (tested_in s (a_report r)) (report_rule s r)
unfolding tested_in
report_ends s r =
    staged_report (stages s t u (renews_then net (renews_then (renews_opened t) (fast_renews (opened t))))) s r
    (λ e. no_view_ends s t _ (nothing_written s) (renews_none s) none)
    (λ e. no_view_ends s t _ (nothing_written t) net none)
    (λ e. unfold and_then opens in
    record {
      keeps = keeps_then t (opens t) proposes_fast (keeps_open t) (keeps_fast (opened t));
      is = refl;
      no_view = every_append (opens_no_view t) (fast_every NoView (opened t) tt);
    })
  where
    t : State
    t = with_net s (net_after s.net.bits r)

    net : Renews s t
    net = renews_net s _

    u : State
    u = (proposes_fast (opened t)).state

proposal_ends : (s : State) (p : Proposal) → refusal_of s (a_proposal p) ≡ 0
    → EventDone s (arrived s (a_proposal p)) (tested_in s (a_proposal p)) (proposal_rule s p)
unfolding tested_in
proposal_ends s p z = staged_proposal (stages s (received s p) (received s p) arrives) s p
    (λ e. no_view_ends s _ _ (nothing_written (received s p)) arrives none)
    (λ e. record { keeps = keeps_none (received s p); is = refl; no_view = none })
  where
    arrives : Renews s (received s p)
    arrives = let c = check_facts s p z in renews_received s p c.other c.above

event_ends : (s : State) (e : Event) → refusal_of s e ≡ 0 → EventDone s (arrived s e) (tested_in s e) (rule_of s e)
event_ends s (a_report r) z = report_ends s r
event_ends s (a_proposal p) z = proposal_ends s p z

-- the same of what is handed, accepted or not
pub answer_ends : (s : State) (h : Input) → Renews s (next_state s h)
    × ((v : View) → Memᴰ (view v) (answer_to s h).written
    → ViewSent s (arrived s h.event) (tested_in s h.event) v (answer_to s h).written (next_state s h))
unfolding answer_to
answer_ends s h =
    take_by h.office s h.event h.room Ends (renews_none s, λ v m. absurd (Memᴰ.not-nil m))
    (λ a. let x = event_ends s h.event a.acts.passes in (x.renews, x.shows))
  where
    Ends : List Written → State → Type 0
    Ends ws t = Renews s t × ((v : View) → Memᴰ (view v) ws
        → ViewSent s (arrived s h.event) (tested_in s h.event) v ws t)

-- no stored proposal has a number above the last one known of its office
abbrev pub WithinLast : State → Type 0
WithinLast s = (o : ℕ) → o < 16 → (stored_at s o).present ≡ true → (in_slot s o).number ≤ last_of s o

kept_renews : {s t : State} → Renews s t → WithinLast s → WithinLast t
kept_renews {s} {t} r k o l p = go (r.slot o l)
  where
    go : SlotAfter s t o → (in_slot t o).number ≤ last_of t o
    go (same e) =
        let a = k o l (rw (← e) p) in
        let b = r.last o l in
        let c = ap (λ (v : Slot). v.proposal.number) e in
        omega arith
    go (empty e) = absurd (true_false _ p e)
    go (newer a b) = b

-- number n of office o is past: it is known, and what is stored for the office is above it
record Past (n o : ℕ) (s : State) : Type 0 where
  known : n ≤ last_of s o
  above : (stored_at s o).present ≡ true → n < (in_slot s o).number

past_renews : {n o : ℕ} {s t : State} → o < 16 → Renews s t → Past n o s → Past n o t
past_renews {n} {o} {s} {t} l r h =
    record { known = le_trans h.known (r.last o l); above = λ p. go p (r.slot o l) }
  where
    go : (stored_at t o).present ≡ true → SlotAfter s t o → n < (in_slot t o).number
    go p (same e) =
        let a = h.above (rw (← e) p) in
        let c = ap (λ (v : Slot). v.proposal.number) e in
        omega arith
    go p (empty e) = absurd (true_false _ p e)
    go p (newer a b) = let c = h.known in omega arith

-- what a view counted
module _ (e : LogEntry) (o : ℕ) (p : Proposal) (c : CountedAt e o p) where
  pub counted_shown :
      ViewSent e.before (arrived e.before e.handed.event) (tested_at e) c.seen (answer_of e).written
      (answer_of e).state
  counted_shown = (answer_ends e.before e.handed).1 c.seen c.sent

  pub counted_member : serves (tested_at e).net.bits o ≡ true
  unfolding view_of
  counted_member = rw (ap (λ (v : View). v.members.bits) counted_shown.is) at c.member

  -- its number becomes the used number, its start number stands in the view, and it is stored no longer
  pub counted_used : used_at (answer_of e).state o ≡ p.number
  counted_used = rw (
    counted_shown.state,
    (concluded_reads (tested_at e)).used_is o c.office,
    counted_member,
    c.stored,
  )

  pub counted_start : get_or c.seen.starts o 0 ≡ p.start
  unfolding view_of start_of
  counted_start = rw (counted_shown.is, get_or_tab 16 (start_of (tested_at e)) o 0 c.office, counted_member)
      (ap (λ (v : Slot). v.proposal.start) c.stored)

  -- which is below the view's number
  pub counted_above : p.start < c.seen.number
  unfolding view_of start_of
  counted_above =
      let x = tested_at e in
      let a = largest_le 16 (start_of x) o c.office in
      let b : start_of x o ≡ p.start = rw counted_member (ap (λ (v : Slot). v.proposal.start) c.stored) in
      let d : c.seen.number ≡ 1 + largest 16 (start_of x) = ap (λ (v : View). v.number) counted_shown.is in
      omega arith

  pub counted_gone : (stored_at (answer_of e).state o).present ≡ false
  counted_gone = rw (counted_shown.state, (concluded_reads (tested_at e)).stored_is o c.office, counted_member)

  counted_past : WithinLast e.before → Past p.number o (answer_of e).state
  counted_past k =
      let a = counted_shown in
      let n = ap (λ (v : Slot). v.proposal.number) c.stored in
      let h = kept_renews a.renews k o c.office (ap (λ (v : Slot). v.present) c.stored) in
      let l = (renews_concluded (tested_at e)).last o c.office in
      let t = ap (λ (t : State). last_of t o) a.state in
      record { known = omega arith; above = λ q. absurd (true_false _ q counted_gone) }

  past_counted : (n : ℕ) → Past n o e.before → n < p.number
  past_counted n h =
      let x = past_renews c.office counted_shown.renews h in
      let a = x.above (ap (λ (v : Slot). v.present) c.stored) in
      let b = ap (λ (v : Slot). v.proposal.number) c.stored in
      omega arith

-- every view counts a proposal for every office of its members
pub view_counts : (e : LogEntry) (v : View) → Memᴰ (view v) (answer_of e).written → (o : ℕ) → o < 16
    → serves v.members.bits o ≡ true
    → (p : Proposal) × CountedAt e o p
view_counts e v m o l h =
    let a = (answer_ends e.before e.handed).1 v m in
    let x = tested_at e in
    let b = (agreed_out x a.agrees).every o l (unfold view_of in
    rw (ap (λ (v : View). v.members.bits) a.is) at h) in (
      in_slot x o,
      record {
        seen = v;
        sent = m;
        office = l;
        member = h;
        stored = ap (λ (t : Bool). record { present = t; proposal = in_slot x o }) b.is_there;
      },
    )

-- No proposal serves two views: of two views that an office sends in a run, the later one counts a proposal with a
-- higher number for every office that is in both.
pub counted_once : (s : State) → WithinLast s → (hs : List Input) (e f : LogEntry) → Before e f (log_of s hs)
    → (o : ℕ) (p q : Proposal) → CountedAt e o p → CountedAt f o q → p.number < q.number
counted_once s k hs e f b o p q c d =
    let kept = log_keeps WithinLast (λ s h. kept_renews (answer_ends s h).0) s k hs e (before_first e f b) in
    let later = before_second e f s hs b in
    let past = log_keeps (Past p.number o) (λ s h. past_renews c.office (answer_ends s h).0) (answer_of e).state
    (counted_past e o p c kept) later.0 f later.1
    in
    past_counted f o q d p.number past

-- a fresh office has nothing stored
fresh_kept_lem : (own : ℕ) → WithinLast (fresh own)
fresh_kept_lem own o l p = absurd (true_false _ p (ap (λ (v : Slot). v.present) ((fresh_reads own).stored_is o l)))

pub no_proposal_twice : (own : ℕ) (hs : List Input) (e f : LogEntry) → Before e f (log_of (fresh own) hs)
    → (o : ℕ) (p q : Proposal) → CountedAt e o p → CountedAt f o q → p.number < q.number
no_proposal_twice own hs e f b o p q c d = counted_once (fresh own) (fresh_kept_lem own) hs e f b o p q c d

-- and an event sends no two
pub one_view : (e : LogEntry) (v w : View) → Memᴰ (view v) (answer_of e).written
    → Memᴰ (view w) (answer_of e).written → v ≡ w
one_view e v w m n =
    let a = (answer_ends e.before e.handed).1 in
    (a v m).is ∙ sym (a w n).is

-- a view that is sent is of the net view at that moment
pub view_of_net : (e : LogEntry) (v : View) → Memᴰ (view v) (answer_of e).written
    → v.members ≡ (answer_of e).state.net
unfolding view_of concluded
view_of_net e v m =
    let a = (answer_ends e.before e.handed).1 v m in
    ap (λ (v : View). v.members) a.is ∙ sym (ap (λ (t : State). t.net) a.state)
