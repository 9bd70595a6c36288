-- Check 13. The numbers that an event makes are start, proposal and view numbers; every other number of the state it
-- leaves is a copy of one that was there or came with the proposal. So the state left passes check 2 exactly when
-- these three stay within L.
use mathlib.Core.Path.{◌≡◌, refl}
use mathlib.Core.Bool.{true, false}
use mathlib.Core.List.{List}
use mathlib.Core.Logic.{◌↔◌}
use Prim.Native.Nat.{ℕ, ◌≤◌, ◌<◌}
use native.Mathlib.Omega.{arith}
use lib.ListN.{get_or}
use Rattle.laws.proofs.Fin.{if_cases, if_le, true_false}
use Rattle.laws.proofs.Tab.{get_or_tab}
use Rattle.laws.specs.Upd.{ifb, upd}
use Rattle.laws.proofs.Upd.{upd_cases}
use Rattle.seats.specs.Offices.{serves}
use Rattle.records.specs.declared.Proposal.{Proposal}
use Rattle.rules.specs.State.{Mode, Fast, Slow, Slot, State, keeping, stored_at, accepted_at, used_at, number_in}
use Rattle.rules.specs.Rules.{Written, Outcome, nothing_written, and_then, with_net, opened, opens, own_proposal}
use Rattle.rules.specs.Rules.{proposed, next_number, slow_number, proposes_fast}
use Rattle.rules.specs.Rules.{proposes_slow, start_of, view_of, concluded, agreed}
use Rattle.records.specs.Numbers.{limit}
use Rattle.rules.specs.Refusals.{well_formed, Event, a_report, a_proposal, refusal_of, rule_of}
use Rattle.rule_laws.proofs.Steps.{SlotWithin, well_facts, facts_well, check_facts}
use Rattle.rule_laws.proofs.Parts.{proposed_reads, received_reads, concluded_reads, made_is, made_used}
use Rattle.rule_laws.proofs.Tests.{AllAgree, agreed_out, next_above, slow_above}
use Rattle.rule_laws.proofs.Walk.{arrived, concludes, Walk, walk_event}

-- the numbers of a state that no event makes
pub record Copied (s : State) : Type 0 where
  pub own : s.own < 16
  pub starts : (o : ℕ) → o < 16 → get_or s.view.starts o 0 ≤ limit
  pub accepted : (o : ℕ) → o < 16 → accepted_at s o ≤ limit
  pub used : (o : ℕ) → o < 16 → used_at s o ≤ limit
  pub stored : (o : ℕ) → o < 16 → (stored_at s o).present ≡ true → SlotWithin (stored_at s o)

-- and those that one does
pub record MadeWithin (s : State) : Type 0 where
  pub start : s.start ≤ limit
  pub number : s.number ≤ limit
  pub view : s.view.number ≤ limit

-- a part of an event lets no start or proposal number fall, and copies only numbers within L where its own are
pub record Copies (s : State) (o : Outcome) : Type 0 where
  pub start : s.start ≤ o.state.start
  pub number : s.number ≤ o.state.number
  pub copied : Copied s → o.state.start ≤ limit → o.state.number ≤ limit → Copied o.state

copies_none : (s : State) → Copies s (nothing_written s)
copies_none s = record { start = omega arith; number = omega arith; copied = λ c a b. c }

pub copies_then : (s : State) (o : Outcome) (f : State → Outcome) → Copies s o → Copies o.state (f o.state)
    → Copies s (and_then o f)
unfolding and_then
copies_then s o f a b =
    let x = a.start in
    let y = b.start in
    let m = a.number in
    let n = b.number in
    record {
      start = omega arith;
      number = omega arith;
      copied = λ c p q. b.copied (a.copied c (omega arith) (omega arith)) p q;
    }

copies_open : (s : State) → Copies s (opens s)
unfolding opens opened
copies_open s = record {
  start = omega arith;
  number = omega arith;
  copied = λ c p q. record {
    own = c.own;
    starts = c.starts;
    accepted = c.accepted;
    used = c.used;
    stored = c.stored;
  };
}

-- what one office's slot becomes is within L, and so is every slot
slots_within : (s : State) (i : ℕ) (p : Proposal) (v : Slot) (o : ℕ) → Copied s → SlotWithin (keeping p)
    → o < 16 → v ≡ upd (stored_at s) i (keeping p) o → v.present ≡ true → SlotWithin v
slots_within s i p v o c w l e =
    rw e (upd_cases (λ (o : ℕ) (v : Slot). o < 16 → v.present ≡ true → SlotWithin v) (stored_at s) i (keeping p) o
    (λ l e. w) (λ n l. c.stored o l) l)

-- a proposal is made with a number above the own one
module _ (s : State) (m : Mode) (n : ℕ) where
  pub made_within_lem : Copied s → s.start ≤ limit → n ≤ limit → SlotWithin (keeping (own_proposal m n s))
  made_within_lem c st nu =
      let w = made_is s m n in
      let a = w.3 in
      let b = w.4 in
      record {
        start = omega arith;
        number = omega arith;
        used = λ o l. rw (made_used s m n o l)
            (if_le (serves s.net.bits o) (used_at s o) 0 limit (c.used o l) (omega arith));
      }

  copies_proposed : (ws : List Written) → s.number < n → Copies s (record { state = proposed m n s; written = ws })
  unfolding proposed
  copies_proposed ws above = record {
    start = omega arith;
    number = omega arith;
    copied = λ c p q. record {
      own = c.own;
      starts = c.starts;
      accepted = c.accepted;
      used = c.used;
      stored = λ o l. slots_within s s.own (own_proposal m n s) _ o c (made_within_lem c p q) l
          ((proposed_reads s m n).stored_is o l);
    };
  }

copies_fast : (s : State) → Copies s (proposes_fast s)
unfolding proposes_fast
copies_fast s = copies_proposed s Fast (next_number s) _ (next_above s)

copies_slow : (s : State) → Copies s (proposes_slow s)
unfolding proposes_slow
copies_slow s = copies_proposed s Slow (slow_number s) _ (slow_above s)

-- a view counts what is stored
module _ (s : State) (a : AllAgree s) (c : Copied s) where
  counted_start : (o : ℕ) → o < 16 → start_of s o ≤ limit
  unfolding start_of
  counted_start o l = if_cases (λ (n : ℕ). n ≤ limit) (serves s.net.bits o) _ _
      (λ e. (c.stored o l (a.every o l e).is_there).start) (λ e. omega arith)

  counted_used : (o : ℕ) → o < 16 → ifb (serves s.net.bits o) (number_in (stored_at s o)) (used_at s o) ≤ limit
  counted_used o l = if_cases (λ (n : ℕ). n ≤ limit) (serves s.net.bits o) _ _
      (λ e. let p = (a.every o l e).is_there in rw p (c.stored o l p).number) (λ e. c.used o l)

  pub view_starts : (o : ℕ) → o < 16 → get_or (view_of s).starts o 0 ≤ limit
  unfolding view_of
  view_starts o l = rw (get_or_tab 16 (start_of s) o 0 l) (counted_start o l)

  concluded_copied : Copied (concluded s)
  concluded_copied =
      let r = concluded_reads s in
      record {
        own = rw r.own_is c.own;
        starts = λ o l. rw r.view_is (view_starts o l);
        accepted = λ o l. rw (r.accepted_is o l) (c.accepted o l);
        used = λ o l. rw (r.used_is o l) (counted_used o l);
        stored = λ o l. rw (r.stored_is o l)
            (if_cases (λ (v : Slot). v.present ≡ true → SlotWithin v) (serves s.net.bits o) _ _
            (λ e p. absurd (true_false false p refl)) (λ e. c.stored o l));
      }

copies_view : (s : State) → agreed s ≡ true → Copies s (concludes s)
copies_view s t =
    let r = concluded_reads s in
    let a = r.start_is in
    let b = r.number_is in
    record { start = omega arith; number = omega arith; copied = λ c p q. concluded_copied s (agreed_out s t) c }

pub copying : Walk Copies Copies
copying = record {
  idle = λ s i. copies_none s;
  opening = λ s i. copies_open s;
  fastly = λ s i. copies_fast s;
  slowly = λ s i. copies_slow s;
  concluding = copies_view;
  chain = copies_then;
  whole = λ s o h. h;
  finish = copies_then;
}

-- what arrives brings no number above L
abbrev pub Fitting : Event → Type 0
Fitting (a_report r) = Unit {0}
Fitting (a_proposal p) = SlotWithin (keeping p)

pub arrived_copied : (s : State) (e : Event) → Fitting e → Copied s → Copied (arrived s e)
unfolding with_net
arrived_copied s (a_report r) f c =
    record { own = c.own; starts = c.starts; accepted = c.accepted; used = c.used; stored = c.stored }
arrived_copied s (a_proposal p) f c =
    let q = received_reads s p in
    record {
      own = rw q.own_is c.own;
      starts = λ o l. rw q.view_is (c.starts o l);
      accepted = λ o l. rw (q.accepted_is o l)
          (upd_cases (λ (o : ℕ) (n : ℕ). o < 16 → n ≤ limit) (accepted_at s) p.sender p.number o (λ l. f.number)
          (λ n l. c.accepted o l) l);
      used = λ o l. rw (q.used_is o l) (c.used o l);
      stored = λ o l. slots_within s p.sender p _ o c f l (q.stored_is o l);
    }

pub well_copied : (s : State) → well_formed s ≡ true → Copied s
well_copied s w = let h = well_facts s w in
    record { own = h.own; starts = h.starts; accepted = h.accepted; used = h.used; stored = h.stored }

-- no number made is above L: then the state left passes check 2
pub made_well : (s : State) (e : Event) → well_formed s ≡ true → Fitting e → MadeWithin (rule_of s e).state
    → well_formed (rule_of s e).state ≡ true
made_well s e w f m = facts_well _
    (record {
      own = c.own;
      view = m.view;
      start = m.start;
      number = m.number;
      starts = c.starts;
      accepted = c.accepted;
      used = c.used;
      stored = c.stored;
    })
  where
    c : Copied (rule_of s e).state
    c = (walk_event copying s e).copied (arrived_copied s e f (well_copied s w)) m.start m.number

pub accepted_fits : (s : State) (e : Event) → refusal_of s e ≡ 0 → Fitting e
accepted_fits s (a_report r) z = tt
accepted_fits s (a_proposal p) z = let h = check_facts s p z in
    record { start = h.start.1; number = h.number.1; used = h.used }

-- and only then
pub ceiling : (s : State) (e : Event) → well_formed s ≡ true → refusal_of s e ≡ 0
    → (well_formed (rule_of s e).state ≡ true)
    ↔ (((rule_of s e).state.start ≤ limit) × ((rule_of s e).state.number ≤ limit)
    × ((rule_of s e).state.view.number ≤ limit))
ceiling s e w z = (
  λ h. let f = well_facts _ h in (f.start, f.number, f.view),
  λ h. made_well s e w (accepted_fits s e z) (record { start = h.0; number = h.1; view = h.2 }),
)
