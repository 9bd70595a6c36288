-- What holds of every record that an event writes: no number in it passes L, and an office without a seat in the
-- members has no number.
use mathlib.Core.Path.{◌≡◌, refl, ap, ◌∙◌}
use mathlib.Core.Bool.{true, false}
use mathlib.Core.Logic.{◌⊎◌, inl, inr}
use mathlib.Core.List.Memᴰ
use mathlib.Core.List.{List, [], ◌∷◌, ◌++◌, append-nil, Memᴰ}
use Prim.Native.Nat.{ℕ, zero, suc, ◌≤◌, ◌<◌}
use native.Mathlib.Omega.{arith}
use lib.ListN.{take, get_or}
use lib.Seq.{take-nil}
use Rattle.laws.specs.Lists.{Every, none, more}
use Rattle.laws.proofs.Lists.{every_append}
use Rattle.laws.proofs.Fin.{if_cases}
use Rattle.laws.proofs.Tab.{get_or_tab}
use Rattle.seats.specs.Offices.{serves}
use Rattle.records.specs.declared.Notice.{Notice}
use Rattle.records.specs.declared.Proposal.{Proposal}
use Rattle.records.specs.declared.View.{View}
use Rattle.rules.specs.State.{Mode, None, Fast, Slow, State, keeping, used_for}
use Rattle.rules.specs.Rules.{Written, notice, proposal, view, Outcome, and_then, opened, notice_of, opens, next_number}
use Rattle.rules.specs.Rules.{own_proposal, proposed, has_recipient, proposes_fast, slow_number, proposes_slow, agreed}
use Rattle.rules.specs.Rules.{start_of, view_of, concluded}
use Rattle.records.specs.Numbers.{limit}
use Rattle.rules.specs.Refusals.{Event, rule_of, take_of, step_of}
use Rattle.rule_laws.proofs.Tests.{agreed_out, next_above, slow_above}
use Rattle.rule_laws.proofs.Steps.{SlotWithin, well_facts, step_by, take_by}
use Rattle.rule_laws.proofs.Walk.{concludes, Walk, walk_event}
use Rattle.rule_laws.proofs.Ceiling.{Copied, MadeWithin, Copies, copying, copies_then, made_within_lem, view_starts}
use Rattle.rule_laws.proofs.Ceiling.{arrived_copied, well_copied, accepted_fits}

-- the fast proposal, written or not
pub fast_every : (R : Written → Type 0) (s : State) → R (proposal (own_proposal Fast (next_number s) s))
    → Every R (proposes_fast s).written
unfolding proposes_fast
fast_every R s r =
    if_cases (Every R) (has_recipient (own_proposal Fast (next_number s) s)) _ _ (λ e. more r none) (λ e. none)

-- the records that there are: R of each of them is R of all that is written
pub record EachMade (R : Written → Type 0) : Type 0 where
  pub notices : (s : State) → R (notice (notice_of (opened s)))
  pub proposals : (s : State) (m : Mode) (n : ℕ) → (m ≡ None → ⊥) → s.number < n → R (proposal (own_proposal m n s))
  pub views : (s : State) → agreed s ≡ true → R (view (view_of s))

every_then : {R : Written → Type 0} (s : State) (o : Outcome) (f : State → Outcome) → Every R o.written
    → Every R (f o.state).written
    → Every R (and_then o f).written
unfolding and_then
every_then s o f a b = every_append a b

-- what holds of no records and of those of each event holds of those of an event taken or not, and of those of a step
module _ (S : List Written → Type 0) (z : S []) (h : (s : State) (e : Event) → S (rule_of s e).written)
    (office : ℕ) (s : State) where
  of_take : (e : Event) (output : ℕ) → S (take_of office s e output).written
  of_take e output = take_by office s e output (λ ws t. S ws) z (λ a. h s e)

  of_step : (b : List ℕ) (output : ℕ) → S (step_of office s b output).written
  of_step b output = step_by office s b output (λ ws t. S ws) z (λ e. of_take e output)

module _ {R : Written → Type 0} (each : EachMade R) where
  writing : Walk (λ s o. Every R o.written) (λ s o. Every R o.written)
  unfolding opens proposes_slow
  writing = record {
    idle = λ s i. none;
    opening = λ s i. more (each.notices s) none;
    fastly = λ s i. fast_every R s
        (each.proposals s Fast (next_number s) (λ e. let z : ◌≡◌ {A = ℕ} 0 1 = cc in omega arith) (next_above s));
    slowly = λ s i. more
        (each.proposals s Slow (slow_number s) (λ e. let z : ◌≡◌ {A = ℕ} 0 1 = cc in omega arith) (slow_above s)) none;
    concluding = λ s e. more (each.views s e) none;
    chain = every_then;
    whole = λ s o h. h;
    finish = every_then;
  }

  pub every_written : (s : State) (e : Event) → Every R (rule_of s e).written
  every_written s e = walk_event writing s e

  pub every_step : (office : ℕ) (s : State) (b : List ℕ) (output : ℕ) → Every R (step_of office s b output).written
  every_step = of_step (Every R) none every_written

-- "The view is written, after all else."
abbrev pub NoView : Written → Type 0
NoView (notice n) = Unit {0}
NoView (proposal p) = Unit {0}
NoView (view v) = ⊥

pub data ViewLast : List Written → Type 0 where
  at_end : ViewLast []
  last_view : {v : View} → ViewLast (view v ∷ [])
  last_notice : {n : Notice} {ws : List Written} → ViewLast ws → ViewLast (notice n ∷ ws)
  last_proposal : {p : Proposal} {ws : List Written} → ViewLast ws → ViewLast (proposal p ∷ ws)

last_append : (a : List Written) {b : List Written} → Every NoView a → ViewLast b → ViewLast (a ++ b)
last_append [] none h = h
last_append (notice n ∷ a) (more r e) h = last_notice (last_append a e h)
last_append (proposal p ∷ a) (more r e) h = last_proposal (last_append a e h)
last_append (view v ∷ a) (more r e) h = absurd r

last_then : (s : State) (o : Outcome) (f : State → Outcome) → Every NoView o.written
    → ViewLast (f o.state).written
    → ViewLast (and_then o f).written
unfolding and_then
last_then s o f a b = last_append o.written a b

ending : Walk (λ s o. Every NoView o.written) (λ s o. ViewLast o.written)
unfolding opens proposes_slow
ending = record {
  idle = λ s i. none;
  opening = λ s i. more {a = notice (notice_of (opened s))} tt none;
  fastly = λ s i. fast_every NoView s tt;
  slowly = λ s i. more {a = proposal (own_proposal Slow (slow_number s) s)} tt none;
  concluding = λ s e. last_view;
  chain = every_then;
  whole = λ s o h. rw append-nil at (last_append o.written h at_end);
  finish = last_then;
}

pub take_last : (office : ℕ) (s : State) (e : Event) (output : ℕ) → ViewLast (take_of office s e output).written
take_last = of_take ViewLast at_end (walk_event ending)

-- where a view has left, so has all that was written with it
past_first : (v : View) (r : Written) (n : ℕ) (ws : List Written) → (view v ≡ r → ⊥)
    → (Memᴰ (view v) (take n ws) → take n ws ≡ ws) → (view v ≡ r) ⊎ Memᴰ (view v) (take n ws)
    → r ∷ take n ws ≡ r ∷ ws
past_first v r n ws d f (inl e) = absurd (d e)
past_first v r n ws d f (inr m) = ap (λ (l : List Written). r ∷ l) (f m)

pub view_all : (v : View) (n : ℕ) (ws : List Written) → ViewLast ws → Memᴰ (view v) (take n ws) → take n ws ≡ ws
view_all v zero ws l m = absurd (Memᴰ.not-nil m)
view_all v (suc n) [] l m = refl
view_all v (suc n) (view x ∷ []) last_view m = ap (λ (l : List Written). view x ∷ l) (take-nil n)
view_all v (suc n) (view x ∷ (_ ∷ _)) l m = elim l [ ]
view_all v (suc n) (notice x ∷ ws) (last_notice l) m =
    past_first v (notice x) n ws (λ e. let z : ◌≡◌ {A = ℕ} 0 1 = cc in omega arith) (view_all v n ws l)
    (Memᴰ.cases_cons m)
view_all v (suc n) (proposal x ∷ ws) (last_proposal l) m =
    past_first v (proposal x) n ws (λ e. let z : ◌≡◌ {A = ℕ} 0 1 = cc in omega arith) (view_all v n ws l)
    (Memᴰ.cases_cons m)

pub view_last : (office : ℕ) (s : State) (b : List ℕ) (output : ℕ) → ViewLast (step_of office s b output).written
view_last = of_step ViewLast at_end (walk_event ending)

-- "A used number or a view's start number is 0 for an office without a seat in the members."
abbrev pub SeatsOnly : Written → Type 0
SeatsOnly (notice n) = Unit {0}
SeatsOnly (proposal p) = (o : ℕ) → o < 16 → serves p.members.bits o ≡ false → used_for p o ≡ 0
SeatsOnly (view v) = (o : ℕ) → o < 16 → serves v.members.bits o ≡ false → get_or v.starts o 0 ≡ 0

seats_each : EachMade SeatsOnly
unfolding own_proposal view_of start_of
seats_each = record {
  notices = λ s. tt;
  proposals = λ s m n b l o lt e. get_or_tab 16 _ o 0 lt ∙ rw e;
  views = λ s a o lt e. get_or_tab 16 (start_of s) o 0 lt ∙ rw e;
}

pub seats_only : (office : ℕ) (s : State) (b : List ℕ) (output : ℕ)
    → Every SeatsOnly (step_of office s b output).written
seats_only = every_step seats_each

-- "No number in a state or record passes L."
abbrev pub RecordWithin : Written → Type 0
RecordWithin (notice n) = n.start ≤ limit
RecordWithin (proposal p) = SlotWithin (keeping p)
RecordWithin (view v) = (v.number ≤ limit) × ((o : ℕ) → o < 16 → get_or v.starts o 0 ≤ limit)

-- the records of a part before a view, and of a whole event: within L where the state left is
record Writes (s : State) (o : Outcome) : Type 0 where
  copies : Copies s o
  within : Copied s → o.state.start ≤ limit → o.state.number ≤ limit → Every RecordWithin o.written

record WritesAll (s : State) (o : Outcome) : Type 0 where
  copies : Copies s o
  within : Copied s → MadeWithin o.state → Every RecordWithin o.written

then_within : (s : State) (o : Outcome) (f : State → Outcome) → Writes s o → Copies o.state (f o.state)
    → Copied s
    → (f o.state).state.start ≤ limit → (f o.state).state.number ≤ limit
    → (Copied o.state → Every RecordWithin (f o.state).written)
    → Every RecordWithin (o.written ++ (f o.state).written)
then_within s o f a b c x y rest =
    let m = b.start in
    let n = b.number in
    every_append (a.within c (omega arith) (omega arith)) (rest (a.copies.copied c (omega arith) (omega arith)))

writes_then : (s : State) (o : Outcome) (f : State → Outcome) → Writes s o → Writes o.state (f o.state)
    → Writes s (and_then o f)
unfolding and_then
writes_then s o f a b = record {
  copies = copies_then s o f a.copies b.copies;
  within = λ c x y. then_within s o f a b.copies c x y (λ d. b.within d x y);
}

writes_last : (s : State) (o : Outcome) (f : State → Outcome) → Writes s o → WritesAll o.state (f o.state)
    → WritesAll s (and_then o f)
unfolding and_then
writes_last s o f a b = record {
  copies = copies_then s o f a.copies b.copies;
  within = λ c m. then_within s o f a b.copies c m.start m.number (λ d. b.within d m);
}

writes_open : (s : State) (c : Copies s (opens s)) → Writes s (opens s)
unfolding opens notice_of
writes_open s c = record { copies = c; within = λ d x y. more x none }

writes_fast : (s : State) → Copies s (proposes_fast s) → Writes s (proposes_fast s)
unfolding proposes_fast proposed
writes_fast s c =
    record { copies = c; within = λ d x y. fast_every RecordWithin s (made_within_lem s Fast (next_number s) d x y) }

writes_slow : (s : State) → Copies s (proposes_slow s) → Writes s (proposes_slow s)
unfolding proposes_slow proposed
writes_slow s c = record { copies = c; within = λ d x y. more (made_within_lem s Slow (slow_number s) d x y) none }

writes_view : (s : State) → agreed s ≡ true → Copies s (concludes s) → WritesAll s (concludes s)
unfolding concluded
writes_view s e c =
    record { copies = c; within = λ d m. more {a = view (view_of s)} (m.view, view_starts s (agreed_out s e) d) none }

writing_within : Walk Writes WritesAll
writing_within = record {
  idle = λ s i. record { copies = copying.idle s i; within = λ c x y. none };
  opening = λ s i. writes_open s (copying.opening s i);
  fastly = λ s i. writes_fast s (copying.fastly s i);
  slowly = λ s i. writes_slow s (copying.slowly s i);
  concluding = λ s e. writes_view s e (copying.concluding s e);
  chain = writes_then;
  whole = λ s o h. record { copies = h.copies; within = λ c m. h.within c m.start m.number };
  finish = writes_last;
}

-- every record that an event taken writes, and every one that a step writes
pub take_within : (office : ℕ) (s : State) (e : Event) (output : ℕ)
    → Every RecordWithin (take_of office s e output).written
take_within office s e output = take_by office s e output (λ ws t. Every RecordWithin ws) none (λ a.
    let f = well_facts _ a.acts.within in
    (walk_event writing_within s e).within
    (arrived_copied s e (accepted_fits s e a.acts.passes) (well_copied s a.well))
    (record { start = f.start; number = f.number; view = f.view }))

pub records_within : (office : ℕ) (s : State) (b : List ℕ) (output : ℕ)
    → Every RecordWithin (step_of office s b output).written
records_within office s b output =
    step_by office s b output (λ ws t. Every RecordWithin ws) none (λ e. take_within office s e output)
