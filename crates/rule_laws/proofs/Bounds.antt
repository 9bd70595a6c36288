-- How far an event moves the numbers: a start number by one, a proposal number by two, a view number two above the
-- starts. So where none of these is above L - 2, no event makes one above L.
use mathlib.Core.Path.{◌≡◌, refl}
use mathlib.Core.Bool.{true}
use Prim.Native.Nat.{ℕ, ◌+◌, ◌≤◌, ◌<◌}
use native.Mathlib.Omega.{arith}
use Rattle.laws.specs.Fin.{largest}
use Rattle.laws.proofs.Fin.{largest_below, if_cases}
use Rattle.laws.specs.Upd.{ifb, upd}
use Rattle.laws.proofs.Upd.{upd_cases}
use Rattle.seats.specs.Offices.{serves}
use Rattle.records.specs.declared.Report.{Report}
use Rattle.records.specs.declared.Proposal.{Proposal}
use Rattle.rules.specs.State.{Mode, None, Fast, Slow, Slot, State, keeping, stored_at, used_for, number_in}
use Rattle.rules.specs.Rules.{and_then, with_net, opened, opens, next_number, own_proposal, proposed, proposes_fast}
use Rattle.rules.specs.Rules.{received, slow_number, begins_in, proposes_slow, agreed, start_of, view_of, concluded}
use Rattle.rules.specs.Rules.{report_rule, proposal_rule}
use Rattle.records.specs.Numbers.{limit}
use Rattle.rules.specs.Refusals.{well_formed, a_report, a_proposal}
use Rattle.rules.specs.Bounds.{SlotCapped, Capped, low}
use Rattle.rule_laws.proofs.Parts.{proposed_reads, received_reads}
use Rattle.rule_laws.proofs.Tests.{NumberFrom, joins, starts, slow_number_lem, agreed_out}
use Rattle.rule_laws.proofs.Walk.{arrived, slow_round, concludes, then_state, Tested, staged_report, staged_proposal}
use Rattle.rule_laws.proofs.Ceiling.{made_well}

slot_le : {a b : ℕ} (c d : ℕ) {v : Slot} → a ≤ c → b ≤ d → SlotCapped a b v → SlotCapped c d v
slot_le c d x y h =
    record { start = λ p. let z = h.start p in omega arith; number = λ p. let z = h.number p in omega arith }

-- a number of what is stored, an empty slot counted as 0
slot_number : (a b : ℕ) (v : Slot) → SlotCapped a b v → number_in v ≤ b
slot_number a b v h = if_cases (λ (x : ℕ). x ≤ b) v.present v.proposal.number 0 h.number (λ e. omega arith)

-- one slot replaced
slots_capped : (a b : ℕ) (s : State) (i : ℕ) (p : Proposal) (v : Slot) (o : ℕ)
    → ((o : ℕ) → o < 16 → SlotCapped a b (stored_at s o))
    → SlotCapped a b (keeping p) → o < 16 → v ≡ upd (stored_at s) i (keeping p) o → SlotCapped a b v
slots_capped a b s i p v o h k l e =
    rw e (upd_cases (λ (o : ℕ) (v : Slot). o < 16 → SlotCapped a b v) (stored_at s) i (keeping p) o (λ l. k)
    (λ n l. h o l) l)

module _ (a b : ℕ) (s : State) (h : Capped a b s) where
  pub capped_le : (c d : ℕ) → a ≤ c → b ≤ d → Capped c d s
  capped_le c d x y = record {
    view = omega arith;
    start = omega arith;
    number = omega arith;
    stored = λ o l. slot_le c d x y (h.stored o l);
  }

  pub with_net_capped : (x : ℕ) → Capped a b (with_net s x)
  unfolding with_net
  with_net_capped x = record { view = h.view; start = h.start; number = h.number; stored = h.stored }

  pub opened_capped : Capped (a + 1) b (opened s)
  unfolding opened
  opened_capped = record {
    view = omega arith;
    start = omega arith;
    number = h.number;
    stored = λ o l. slot_le (a + 1) b (omega arith) (omega arith) (h.stored o l);
  }

  pub proposed_capped : (m : Mode) (n : ℕ) → n ≤ b + 1 → Capped a (b + 1) (proposed m n s)
  unfolding proposed own_proposal
  proposed_capped m n le = record {
    view = h.view;
    start = h.start;
    number = le;
    stored = λ o l. slots_capped a (b + 1) s s.own (own_proposal m n s) _ o
        (λ o l. slot_le a (b + 1) (omega arith) (omega arith) (h.stored o l))
        (record { start = λ e. h.start; number = λ e. le }) l
        ((proposed_reads s m n).stored_is o l);
  }

  pub received_capped : (p : Proposal) → p.start ≤ a → p.number ≤ b → Capped a b (received s p)
  unfolding received
  received_capped p x y = record {
    view = h.view;
    start = h.start;
    number = h.number;
    stored = λ o l. slots_capped a b s p.sender p _ o h.stored (record { start = λ e. x; number = λ e. y }) l
        ((received_reads s p).stored_is o l);
  }

  pub next_capped : next_number s ≤ b + 1
  unfolding next_number
  next_capped =
      let c = largest_below 16 (λ o. ifb (serves s.net.bits o) (number_in (stored_at s o)) 0) b
      (λ o l. if_cases (λ (x : ℕ). x ≤ b) (serves s.net.bits o) (number_in (stored_at s o)) 0
      (λ e. slot_number a b (stored_at s o) (h.stored o l)) (λ e. omega arith)) in
      omega arith

  pub slow_number_capped : slow_number s ≤ b + 1
  slow_number_capped = go (slow_number s) (slow_number_lem s)
    where
      go : (n : ℕ) → NumberFrom s n → n ≤ b + 1
      go n (joins o l x e f) = let c = (h.stored o l).number x.matches.is_there in omega arith
      go n (starts f e) = let c = next_capped in omega arith

  pub start_capped : agreed s ≡ true → largest 16 (start_of s) ≤ a
  unfolding start_of
  start_capped e = largest_below 16 (start_of s) a
      (λ o l. if_cases (λ (x : ℕ). x ≤ a) (serves s.net.bits o) (stored_at s o).proposal.start 0
      (λ v. (h.stored o l).start ((agreed_out s e).every o l v).is_there) (λ v. omega arith))

  fast_capped : Capped a (b + 1) (proposes_fast s).state
  unfolding proposes_fast
  fast_capped = proposed_capped Fast (next_number s) next_capped

  slow_capped : Capped a (b + 1) (proposes_slow s).state
  unfolding proposes_slow
  slow_capped = proposed_capped Slow (slow_number s) slow_number_capped

-- the slow proposal, after an opening only where the mode was none
module _ (a b : ℕ) (s : State) (h : Capped a b s) where
  pub called_capped : Capped (a + 1) (b + 1) (slow_round s).state
  unfolding and_then opens
  called_capped = go s.mode
    where
      go : (m : Mode) → Capped (a + 1) (b + 1) (proposes_slow (begins_in m s).state).state
      go None = slow_capped (a + 1) b (opened s) (opened_capped a b s h)
      go Fast = capped_le a (b + 1) _ (slow_capped a b s h) (a + 1) (b + 1) (omega arith) (omega arith)
      go Slow = capped_le a (b + 1) _ (slow_capped a b s h) (a + 1) (b + 1) (omega arith) (omega arith)

  pub busy_capped : (s.mode ≡ None → ⊥) → Capped a (b + 1) (slow_round s).state
  unfolding and_then
  busy_capped n = go s.mode n
    where
      go : (m : Mode) → (m ≡ None → ⊥) → Capped a (b + 1) (proposes_slow (begins_in m s).state).state
      go None n = absurd (n refl)
      go Fast n = slow_capped a b s h
      go Slow n = slow_capped a b s h

-- what an event leaves where every number was at most k
pub record Raised (k : ℕ) (s : State) : Type 0 where
  pub start : s.start ≤ k + 1
  pub number : s.number ≤ k + 2
  pub view : s.view.number ≤ k + 2

module _ (k : ℕ) where
  -- after the first stage: a proposal has raised nothing, and a report leaves no second opening
  data First (s : State) : Type 0 where
    not_yet : Capped k k s → First s
    opened_once : (s.mode ≡ None → ⊥) → Capped (k + 1) (k + 1) s → First s

  raised : (s : State) → Capped (k + 1) (k + 2) s → Raised k s
  raised s h = record { start = h.start; number = h.number; view = omega arith }

  reported : (s : State) → Capped k k s → First (and_then (opens s) proposes_fast).state
  unfolding and_then opens proposes_fast proposed
  reported s h = opened_once busy (fast_capped (k + 1) k (opened s) (opened_capped k k s h))
    where
      busy : (proposes_fast (opened s)).state.mode ≡ None → ⊥
      busy e = let z : ◌≡◌ {A = ℕ} 0 1 = cc in omega arith

  called : (s : State) → First s → Capped (k + 1) (k + 2) (slow_round s).state
  called s (not_yet h) =
      capped_le (k + 1) (k + 1) _ (called_capped k k s h) (k + 1) (k + 2) (omega arith) (omega arith)
  called s (opened_once n h) =
      capped_le (k + 1) (k + 1 + 1) _ (busy_capped (k + 1) (k + 1) s h n) (k + 1) (k + 2) (omega arith) (omega arith)

  uncalled : (s : State) → First s → Capped (k + 1) (k + 2) s
  uncalled s (not_yet h) = capped_le k k s h (k + 1) (k + 2) (omega arith) (omega arith)
  uncalled s (opened_once n h) = capped_le (k + 1) (k + 1) s h (k + 1) (k + 2) (omega arith) (omega arith)

  views : (s : State) → Capped (k + 1) (k + 2) s → agreed s ≡ true → Raised k (concluded s)
  unfolding concluded view_of
  views s h e =
      let v = start_capped (k + 1) (k + 2) s h e in
      record { start = h.start; number = h.number; view = omega arith }

  bounds : Tested (λ o. First o.state) (λ o. Capped (k + 1) (k + 2) o.state) (λ o. Raised k o.state)
  bounds = record {
    called = λ o f e. rw (then_state o slow_round) (called o.state f);
    uncalled = λ o f e. uncalled o.state f;
    agrees = λ o h e. rw (then_state o concludes) (views o.state h e);
    unagreed = λ o h e. raised o.state h;
  }

  idle : (s : State) → Capped k k s → Raised k s
  idle s h = raised s (uncalled s (not_yet h))

  pub report_raises : (s : State) (r : Report) → Capped k k s → Raised k (report_rule s r).state
  report_raises s r h =
      let t = arrived s (a_report r) in
      let b : Capped k k t = with_net_capped k k s h _ in
      staged_report bounds s r (λ e. idle s h) (λ e. idle t b) (λ e. reported t b)

  pub proposal_raises : (s : State) (p : Proposal) → Capped k k s → p.start ≤ k → p.number ≤ k
      → Raised k (proposal_rule s p).state
  proposal_raises s p h x y =
      let b = received_capped k k s h p x y in
      staged_proposal bounds s p (λ e. idle (received s p) b) (λ e. not_yet b)

pub low_report : (s : State) (r : Report) → well_formed s ≡ true → Capped low low s
    → well_formed (report_rule s r).state ≡ true
low_report s r w h =
    let m = report_raises low s r h in
    made_well s (a_report r) w tt (record { start = omega arith; number = omega arith; view = omega arith })

pub low_proposal : (s : State) (p : Proposal) → well_formed s ≡ true → Capped low low s → p.start ≤ low
    → p.number ≤ low
    → ((o : ℕ) → o < 16 → used_for p o ≤ limit) → well_formed (proposal_rule s p).state ≡ true
low_proposal s p w h x y u =
    let m = proposal_raises low s p h x y in
    made_well s (a_proposal p) w (record { start = omega arith; number = omega arith; used = u })
    (record { start = omega arith; number = omega arith; view = omega arith })
