-- How many bytes an event writes: one of a few sums of record lengths, never more than the full room, on any state.
use mathlib.Core.Path.{◌≡◌, refl, sym, ap, ◌∙◌}
use mathlib.Core.Bool.{Bool, true, false, ◌||◌}
use mathlib.Core.Logic.{◌⊎◌, inl, inr}
use mathlib.Core.List.{List, [], ◌∷◌, ◌++◌, append_assoc, append-nil}
use Prim.Native.Nat.{ℕ, ◌+◌, ◌≤◌, ◌<◌, max}
use native.Mathlib.Omega.{arith}
use lib.ListN.{length, length-append}
use lib.Dec.{eqb}
use borrow.Author.Tests.{eqb-true}
use Rattle.laws.proofs.Fin.{if_cases, as-facts, anyb_out, anyb_none, or_cases, true_false}
use Rattle.laws.proofs.Tab.{length_tab}
use Rattle.laws.specs.Upd.{ifb, upd}
use Rattle.laws.proofs.Upd.{upd_same, upd_other}
use Rattle.seats.specs.Offices.{serves}
use Rattle.records.specs.Layout.{notice_length, proposal_length, view_length, encode_notice, encode_proposal}
use Rattle.records.specs.Layout.{encode_view}
use Rattle.records.proofs.Lengths.{proposal_length_lem, notice_length_lem, view_length_lem}
use Rattle.records.specs.declared.Report.{Report}
use Rattle.records.specs.declared.Proposal.{Proposal}
use Rattle.rules.specs.State.{Mode, None, Fast, Slow, Slot, State, keeping, stored_at, number_in}
use Rattle.rules.specs.Rules.{Written, notice, proposal, view, Outcome, and_then, with_net, repeats, opened, opens}
use Rattle.rules.specs.Rules.{notice_of, next_number, own_proposal, proposed, receives, has_recipient, proposes_fast}
use Rattle.rules.specs.Rules.{begins_in, slow_number, proposes_slow, is_none, agreed, view_of, change_rule, report_rule}
use Rattle.rules.specs.Rules.{proposal_rule}
use Rattle.rules.specs.Refusals.{full_room, Event, a_report, a_proposal, event_of, rule_of, step_of, bytes_of}
use Rattle.rules.specs.Refusals.{all_bytes, size}
use Rattle.rule_laws.proofs.Steps.{Refused, Accepts, step_cases, step_accepts}
use Rattle.rule_laws.proofs.Walk.{slow_round, concludes, then_state, Tested, staged_change, staged_proposal}
use Rattle.rule_laws.proofs.Monotone.{next_above_stored}
use Rattle.rule_laws.proofs.Parts.{proposed_reads}
use Rattle.rule_laws.proofs.Tests.{Agreeing, agreed_in, agreed_out, slow_above}

pub bytes_append : (room : ℕ) (a b : List Written) → all_bytes room (a ++ b) ≡ all_bytes room a ++ all_bytes room b
unfolding all_bytes
bytes_append room [] b = refl
bytes_append room (w ∷ a) b = ap (λ (l : List ℕ). bytes_of room w ++ l) (bytes_append room a b)
    ∙ sym (append_assoc (bytes_of room w) (all_bytes room a) (all_bytes room b))

pub size_append : (a b : List Written) → size (a ++ b) ≡ size a + size b
size_append a b = ap length (bytes_append 0 a b) ∙ length-append (all_bytes 0 a) (all_bytes 0 b)

pub bytes_one : (room : ℕ) (w : Written) → all_bytes room (w ∷ []) ≡ bytes_of room w
unfolding all_bytes
bytes_one room w = append-nil (bytes_of room w)

-- the room does not count
one_size : (room : ℕ) (w : Written) → length (bytes_of room w) ≡ length (bytes_of 0 w)
unfolding encode_notice encode_proposal encode_view
one_size room (notice n) = refl
one_size room (proposal p) = refl
one_size room (view v) = refl

pub size_bytes : (room : ℕ) (ws : List Written) → length (all_bytes room ws) ≡ size ws
unfolding all_bytes
size_bytes room [] = refl
size_bytes room (w ∷ ws) =
    let a = length-append (bytes_of room w) (all_bytes room ws) in
    let b = length-append (bytes_of 0 w) (all_bytes 0 ws) in
    let c = one_size room w in
    let d = size_bytes room ws in
    omega arith

then_size : (o : Outcome) (f : State → Outcome)
    → size (and_then o f).written ≡ size o.written + size (f o.state).written
unfolding and_then
then_size o f = size_append o.written (f o.state).written

size_one : (w : Written) → size (w ∷ []) ≡ length (bytes_of 0 w)
size_one w = ap length (bytes_one 0 w)

-- each part: a notice, a proposal, a view
opens_size : (s : State) → size (opens s).written ≡ notice_length
unfolding opens
opens_size s = size_one (notice (notice_of (opened s))) ∙ notice_length_lem 0 (notice_of (opened s))

own_size : (m : Mode) (n : ℕ) (s : State) → size (proposal (own_proposal m n s) ∷ []) ≡ proposal_length
unfolding own_proposal
own_size m n s = size_one (proposal (own_proposal m n s)) ∙ proposal_length_lem 0 (own_proposal m n s) (length_tab 16 _)

view_size : (s : State) → size (concludes s).written ≡ view_length
unfolding view_of
view_size s = size_one (view (view_of s)) ∙ view_length_lem 0 (view_of s) (length_tab 16 _)

none_size : size [] ≡ 0
unfolding all_bytes
none_size = refl

-- a slow proposal, after a notice where the mode was none
called_size : (s : State) → size (slow_round s).written ≡ ifb (is_none s.mode) notice_length 0 + proposal_length
unfolding is_none proposes_slow
called_size s =
    let u = (begins_in s.mode s).state in
    let a = then_size (begins_in s.mode s) proposes_slow in
    let b = begins s.mode in
    let c = own_size Slow (slow_number u) u in
    omega arith
  where
    begins : (m : Mode) → size (begins_in m s).written ≡ ifb (is_none m) notice_length 0
    begins None = opens_size s
    begins Fast = none_size
    begins Slow = none_size

-- the sizes that there are, as a list
unfoldable pub one_of : List ℕ → ℕ → Bool
one_of [] n = false
one_of (m ∷ ms) n = eqb n m || one_of ms n

unfoldable pub greatest : List ℕ → ℕ
greatest [] = 0
greatest (m ∷ ms) = max m (greatest ms)

pub at_most : (ms : List ℕ) (n : ℕ) → one_of ms n ≡ true → n ≤ greatest ms
unfolding one_of greatest
at_most [] n e = absurd (true_false false e refl)
at_most (m ∷ ms) n e = go (or_cases (eqb n m) (one_of ms n) e) (at_most ms n)
  where
    go : (eqb n m ≡ true) ⊎ (one_of ms n ≡ true) → (one_of ms n ≡ true → n ≤ greatest ms) → n ≤ max m (greatest ms)
    go (inl q) ih = let z = eqb-true n m q in omega arith
    go (inr q) ih = let z = ih q in omega arith

-- a proposal: at most a slow one in answer, after a notice where the mode was none, then at most a view
abbrev pub proposal_sizes : List ℕ
proposal_sizes =
    0 ∷ view_length ∷ proposal_length ∷ (notice_length + proposal_length) ∷ (proposal_length + view_length)
    ∷ (notice_length + proposal_length + view_length) ∷ []

-- a slow proposal or none, a notice or none
abbrev slow_size : Bool → Bool → ℕ
slow_size c n = ifb c (ifb n notice_length 0 + proposal_length) 0

proposal_table : (c n : Bool) → (one_of proposal_sizes (slow_size c n) ≡ true)
    × (one_of proposal_sizes (slow_size c n + view_length) ≡ true)
unfolding one_of
proposal_table true true = (refl, refl)
proposal_table true false = (refl, refl)
proposal_table false n = (refl, refl)

proposal_tested : Tested (λ o. size o.written ≡ 0) (λ o. (c : Bool) × (n : Bool)
    × (size o.written ≡ slow_size c n))
    (λ o. one_of proposal_sizes (size o.written) ≡ true)
proposal_tested = record {
  called = λ o z c. (true, is_none o.state.mode, omega (arith, then_size o slow_round, called_size o.state));
  uncalled = λ o z c. (false, false, z);
  agrees = λ o h a. rw (then_size o concludes, view_size o.state, h.2) (proposal_table h.0 h.1).1;
  unagreed = λ o h a. rw h.2 (proposal_table h.0 h.1).0;
}

pub proposal_sizes_lem : (s : State) (p : Proposal) → one_of proposal_sizes (size (proposal_rule s p).written) ≡ true
unfolding one_of
proposal_sizes_lem s p = staged_proposal proposal_tested s p (λ e. rw none_size) (λ e. none_size)

-- an office that is alone in the net view agrees with itself
alone_agrees : (m : Mode) (n : ℕ) (s : State) → (m ≡ None → ⊥)
    → ((o : ℕ) → o < 16 → serves s.net.bits o ≡ true → o ≡ s.own)
    → agreed (proposed m n s) ≡ true
unfolding proposed own_proposal
alone_agrees m n s busy h = agreed_in (proposed m n s) (record { busy = busy; every = at })
  where
    at : (o : ℕ) → o < 16 → serves s.net.bits o ≡ true → Agreeing (proposed m n s) o
    at o l v =
        let own : upd (stored_at s) s.own (keeping (own_proposal m n s)) o ≡ keeping (own_proposal m n s) =
        rw (h o l v) (upd_same (stored_at s) s.own (keeping (own_proposal m n s)))
        in
        let e : stored_at (proposed m n s) o ≡ keeping (own_proposal m n s) = (proposed_reads s m n).stored_is o l
        ∙ own in
        record {
          is_there = ap (λ (x : Slot). x.present) e;
          of_kind = ap (λ (x : Slot). x.proposal.kind) e;
          same_members = ap (λ (x : Slot). x.proposal.members.bits) e;
          own_number_lem = λ z. ap (λ (x : Slot). x.proposal.number) e;
        }

-- what is stored for another office stays
stored_other : (m : Mode) (n : ℕ) (s : State) (o : ℕ) → o < 16 → (o ≡ s.own → ⊥)
    → stored_at (proposed m n s) o ≡ stored_at s o
stored_other m n s o l d = (proposed_reads s m n).stored_is o l
    ∙ upd_other (stored_at s) s.own (keeping (own_proposal m n s)) o d

-- a slow proposal made right after a fast one is above what any other office of the net view has proposed
not_agreed : (s : State) (o : ℕ) → o < 16 → (o ≡ s.own → ⊥) → serves s.net.bits o ≡ true
    → let v = proposed Fast (next_number s) s in agreed (proposed Slow (slow_number v) v) ≡ false
unfolding proposed
not_agreed s o l d e = go (agreed w) refl
  where
    v : State
    v = proposed Fast (next_number s) s

    w : State
    w = proposed Slow (slow_number v) v

    go : (t : Bool) → agreed w ≡ t → agreed w ≡ false
    go false q = q
    go true q =
        let a = (agreed_out w q).every o l e in
        let c : stored_at w o ≡ stored_at s o = stored_other Slow (slow_number v) v o l d
        ∙ stored_other Fast (next_number s) s o l d in
        let present : (stored_at s o).present ≡ true = sym (ap (λ (x : Slot). x.present) c) ∙ a.is_there in
        let number : (stored_at s o).proposal.number ≡ slow_number v = sym (ap (λ (x : Slot). x.proposal.number) c)
        ∙ a.own_number_lem refl in
        let same : number_in (stored_at s o) ≡ (stored_at s o).proposal.number = rw present in
        let below = next_above_stored s o l e in
        let above = slow_above v in
        absurd (omega arith)

recipient_is_other : (p : Proposal) → has_recipient p ≡ true → (o : ℕ) × (o < 16)
    × (serves p.members.bits o ≡ true) × (o ≡ p.sender → ⊥)
unfolding receives
recipient_is_other p e =
    let w = anyb_out 16 (receives p) e in
    let f = simp as-facts at w.2 in
    (w.0, w.1, f.0, f.1)

alone : (p : Proposal) → has_recipient p ≡ false → (o : ℕ) → o < 16 → serves p.members.bits o ≡ true → o ≡ p.sender
unfolding receives
alone p e o l q = let a = anyb_none 16 (receives p) e o l in simp (q, as-facts) at a

-- a report: nothing, or a notice and then a fast proposal, a slow one, a view
abbrev pub report_sizes : List ℕ
report_sizes =
    0 ∷ (notice_length + view_length) ∷ (notice_length + proposal_length)
    ∷ (notice_length + proposal_length + view_length)
    ∷ (notice_length + proposal_length + proposal_length) ∷ []

-- to a recipient, with a slow proposal, with a view
abbrev round_size : Bool → Bool → Bool → ℕ
round_size r c a = notice_length + ifb r proposal_length 0 + ifb c proposal_length 0 + ifb a view_length 0

report_table : (r c a : Bool) → (r ≡ true → c ≡ true → a ≡ false) → (r ≡ false → a ≡ true)
    → one_of report_sizes (round_size r c a) ≡ true
unfolding one_of
report_table true true true f g = absurd (true_false true refl (f refl refl))
report_table true true false f g = refl
report_table true false true f g = refl
report_table true false false f g = refl
report_table false true true f g = refl
report_table false false true f g = refl
report_table false c false f g = absurd (true_false false (g refl) refl)

fast_size : (s : State)
    → size (proposes_fast s).written ≡ ifb (has_recipient (own_proposal Fast (next_number s) s)) proposal_length 0
unfolding proposes_fast
fast_size s = if_cases
    (λ (ws : List Written). size ws ≡ ifb (has_recipient (own_proposal Fast (next_number s) s)) proposal_length 0)
    (has_recipient (own_proposal Fast (next_number s) s)) _ _ (λ e. rw e (own_size Fast (next_number s) s))
    (λ e. rw e none_size)

-- the round that a report begins in an office with a seat: its fast proposal, and the state then
module _ (t : State) where
  u : State
  u = opened t

  p : Proposal
  p = own_proposal Fast (next_number u) u

  v : State
  v = proposed Fast (next_number u) u

  -- the state after a slow proposal
  w : State
  w = proposed Slow (slow_number v) v

  slow_state : (slow_round v).state ≡ w
  unfolding v w proposed and_then proposes_slow
  slow_state = refl

  slow_size_lem : size (slow_round v).written ≡ proposal_length
  unfolding v proposed is_none
  slow_size_lem = called_size v

  -- a view comes at once where nobody else has a seat, and not after a slow proposal where somebody has
  fast_alone : has_recipient p ≡ false → agreed v ≡ true
  unfolding p v own_proposal
  fast_alone e = alone_agrees Fast (next_number u) u (λ z. let y : ◌≡◌ {A = ℕ} 0 1 = cc in omega arith) (alone p e)

  slow_alone : has_recipient p ≡ false → agreed w ≡ true
  unfolding p v w proposed own_proposal
  slow_alone e = alone_agrees Slow (slow_number v) v (λ z. let y : ◌≡◌ {A = ℕ} 0 1 = cc in omega arith) (alone p e)

  slow_others : has_recipient p ≡ true → agreed w ≡ false
  unfolding p v w own_proposal
  slow_others e = let q = recipient_is_other p e in not_agreed u q.0 q.1 q.3 q.2

  record Fasted (o : Outcome) : Type 0 where
    state_is : o.state ≡ v
    size_is : size o.written ≡ notice_length + ifb (has_recipient p) proposal_length 0

  record Slowed (o : Outcome) : Type 0 where
    slowly : Bool
    size_is : size o.written ≡ notice_length + ifb (has_recipient p) proposal_length 0 + ifb slowly proposal_length 0
    others : has_recipient p ≡ true → slowly ≡ true → agreed o.state ≡ false
    nobody : has_recipient p ≡ false → agreed o.state ≡ true

  fasted : Fasted (and_then (opens t) proposes_fast)
  unfolding u p v and_then opens proposes_fast
  fasted =
      let a = then_size (opens t) proposes_fast in
      let b = opens_size t in
      let c = fast_size (opened t) in
      record { state_is = refl; size_is = omega arith }

  slowed : (o : Outcome) → Fasted o → Slowed (and_then o slow_round)
  slowed o f =
      let a = then_size o slow_round in
      let b : size (slow_round o.state).written ≡ proposal_length = rw f.state_is slow_size_lem in
      let c = f.size_is in
      let d : (and_then o slow_round).state ≡ w = then_state o slow_round ∙ rw f.state_is slow_state in
      record {
        slowly = true;
        size_is = omega arith;
        others = λ e z. rw d (slow_others e);
        nobody = λ e. rw d (slow_alone e);
      }

  counted : (o : Outcome) (a : Bool) (n : ℕ) → Slowed o → agreed o.state ≡ a
      → n ≡ size o.written + ifb a view_length 0
      → one_of report_sizes n ≡ true
  counted o a n h e z =
      let m = h.size_is in
      let y : n ≡ round_size (has_recipient p) h.slowly a = omega arith in
      rw y (report_table (has_recipient p) h.slowly a (λ r c. sym e ∙ h.others r c) (λ r. sym e ∙ h.nobody r))

  report_tested : Tested Fasted Slowed (λ o. one_of report_sizes (size o.written) ≡ true)
  report_tested = record {
    called = λ o f c. slowed o f;
    uncalled = λ o f c. record {
      slowly = false;
      size_is = let m = f.size_is in omega arith;
      others = λ e z. absurd (true_false false z refl);
      nobody = λ e. rw f.state_is (fast_alone e);
    };
    agrees = λ o h a. counted o true _ h a (then_size o concludes ∙ rw (view_size o.state));
    unagreed = λ o h a. counted o false _ h a (omega arith);
  }

pub change_sizes : (t : State) → one_of report_sizes (size (change_rule t).written) ≡ true
unfolding one_of
change_sizes t = staged_change (report_tested t) t (λ e. rw none_size) (λ e. fasted t)

pub report_sizes_lem : (s : State) (r : Report) → one_of report_sizes (size (report_rule s r).written) ≡ true
unfolding report_rule one_of
report_sizes_lem s r =
    if_cases (λ (o : Outcome). one_of report_sizes (size o.written) ≡ true) (repeats s r) _ _ (λ e. rw none_size)
    (λ e. change_sizes (with_net s _))

pub change_size : (t : State) → size (change_rule t).written ≤ full_room
unfolding greatest
change_size t = at_most report_sizes _ (change_sizes t)

-- whatever the event, and whatever the bytes and the output
pub event_size : (s : State) (e : Event) → size (rule_of s e).written ≤ full_room
unfolding greatest
event_size s (a_report r) = at_most report_sizes _ (report_sizes_lem s r)
event_size s (a_proposal p) = let a = at_most proposal_sizes _ (proposal_sizes_lem s p) in omega arith

pub step_size : (office : ℕ) (s : State) (b : List ℕ) (output : ℕ)
    → size (step_of office s b output).written ≤ full_room
step_size office s b output = go (step_cases office s b output)
  where
    go : Refused s (step_of office s b output) ⊎ Accepts office s b output
        → size (step_of office s b output).written ≤ full_room
    go (inl r) = rw (r.is, none_size) (omega arith)
    go (inr a) = rw (step_accepts office s b output a) (event_size s (event_of b))
