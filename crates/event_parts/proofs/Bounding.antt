-- For the crates above: what each part of an event makes of the bound on a state's numbers.
use mathlib.Core.Path.{◌≡◌}
use mathlib.Core.Bool.{Bool, true, false}
use Prim.Native.Nat.{ℕ, ◌+◌, ◌≤◌, ◌<◌}
use native.Mathlib.Omega.{arith}
use Rattle.laws.specs.Fin.{largest}
use Rattle.laws.specs.Upd.{ifb}
use Rattle.seats.specs.declared.SeatSet.{SeatSet}
use Rattle.records.specs.declared.Proposal.{Proposal}
use Rattle.rules.specs.State.{Mode, None, Fast, Slow, State}
use Rattle.rules.specs.Rules.{opened, opens, next_number, proposed, proposes_fast, received, slow_number, begins_in}
use Rattle.rules.specs.Rules.{nothing_written, and_then, slow_called, proposes_slow, slow_test, agreed, start_of}
use Rattle.records.specs.Numbers.{limit}
use Rattle.rules.specs.Refusals.{well_formed}
use Rattle.rules.specs.Bounds.{Capped}
use Rattle.rule_laws.proofs.Steps.{well_facts}
use Rattle.rule_laws.proofs.Bounds.{capped_le, opened_capped, proposed_capped, received_capped, next_capped}
use Rattle.rule_laws.proofs.Bounds.{slow_number_capped, start_capped}
use Rattle.rules.specs.State.{with_net_set}
use Rattle.event_parts.specs.Bounds.{Bounded}

pub well_bounded : (s : State) → well_formed s ≡ true → Bounded limit s
well_bounded s e =
    let h = well_facts s e in
    record {
      own = h.own;
      view = h.view;
      start = h.start;
      number = h.number;
      stored = λ o l. record { start = λ p. (h.stored o l p).start; number = λ p. (h.stored o l p).number };
    }

-- the bound is the own office and one cap for all numbers
caps : {k : ℕ} {s : State} → Bounded k s → Capped k k s
caps h = record { view = h.view; start = h.start; number = h.number; stored = h.stored }

bounds : {a b : ℕ} (k : ℕ) {s : State} → s.own < 16 → a ≤ k → b ≤ k → Capped a b s → Bounded k s
bounds {a} {b} k {s} own x y h =
    let c = capped_le a b s h k k x y in
    record { own = own; view = c.view; start = c.start; number = c.number; stored = c.stored }

module _ (k : ℕ) (s : State) (h : Bounded k s) where
  pub bounded_le : (j : ℕ) → k ≤ j → Bounded j s
  bounded_le j le = bounds j h.own le le (caps h)

  pub net_bounded : (x : SeatSet) → Bounded k (with_net_set x s)
  net_bounded x = record { own = h.own; view = h.view; start = h.start; number = h.number; stored = h.stored }

  pub opens_bounded : Bounded (k + 1) (opens s).state
  unfolding opens opened
  opens_bounded = bounds (k + 1) h.own (omega arith) (omega arith) (opened_capped k k s (caps h))

  proposed_bounded : (m : Mode) (n : ℕ) → n ≤ k + 1 → Bounded (k + 1) (proposed m n s)
  unfolding proposed
  proposed_bounded m n le = bounds (k + 1) h.own (omega arith) (omega arith) (proposed_capped k k s (caps h) m n le)

  pub received_bounded : (p : Proposal) → p.start ≤ k → p.number ≤ k → Bounded k (received s p)
  unfolding received
  received_bounded p a b = bounds k h.own (omega arith) (omega arith) (received_capped k k s (caps h) p a b)

  pub next_bound : next_number s ≤ k + 1
  next_bound = next_capped k k s (caps h)

  pub fast_bounded : Bounded (k + 1) (proposes_fast s).state
  unfolding proposes_fast
  fast_bounded = proposed_bounded Fast (next_number s) next_bound

  proposes_slow_bounded : Bounded (k + 1) (proposes_slow s).state
  unfolding proposes_slow
  proposes_slow_bounded = proposed_bounded Slow (slow_number s) (slow_number_capped k k s (caps h))

  pub start_bound : agreed s ≡ true → largest 16 (start_of s) ≤ k
  start_bound = start_capped k k s (caps h)

begins_bounded : (k : ℕ) (s : State) (m : Mode) → Bounded k s → Bounded (k + 1) (begins_in m s).state
begins_bounded k s None h = opens_bounded k s h
begins_bounded k s Fast h = bounded_le k s h (k + 1) (omega arith)
begins_bounded k s Slow h = bounded_le k s h (k + 1) (omega arith)

pub slow_test_bounded : (k : ℕ) (s : State) → Bounded k s → Bounded (k + 2) (slow_test s).state
unfolding slow_test and_then
slow_test_bounded k s h = go (slow_called s)
  where
    t : State
    t = (begins_in s.mode s).state

    go : (b : Bool) → Bounded (k + 2) (ifb b (and_then (begins_in s.mode s) proposes_slow) (nothing_written s)).state
    go false = bounded_le k s h (k + 2) (omega arith)
    go true = bounded_le (k + 1 + 1) (proposes_slow t).state
        (proposes_slow_bounded (k + 1) t (begins_bounded k s s.mode h)) (k + 2) (omega arith)
