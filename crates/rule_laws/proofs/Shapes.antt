-- The shape of a state, which the rules keep: its lists have their lengths.
use mathlib.Core.Path.{◌≡◌}
use mathlib.Core.List.{List}
use Prim.Native.Nat.{ℕ, ◌<◌}
use native.Mathlib.Omega.{arith}
use lib.Dec.{eqb}
use lib.ListN.{length, get_or, get_or-eq_default}
use native.Mathlib.Decide.{dec_lt}
use Rattle.laws.specs.Tab.{tab}
use Rattle.laws.proofs.Tab.{length_tab, get_or_tab}
use Rattle.laws.proofs.Fin.{if_cases}
use Rattle.laws.specs.Upd.{ifb, upd}
use Rattle.laws.proofs.Upd.{upd_cases}
use Rattle.seats.specs.Offices.{serves}
use Rattle.records.specs.Layout.{mark_of}
use Rattle.records.specs.declared.Proposal.{Proposal}
use Rattle.records.proofs.OwnChecks.{used_sixteen}
use Rattle.rules.specs.State.{Mode, Fast, Slow, Slot, State, nothing, keeping, stored_at}
use Rattle.rules.specs.Rules.{Outcome, and_then, with_net, opened, opens, own_proposal, proposed, next_number}
use Rattle.rules.specs.Rules.{proposes_fast, received, slow_number, proposes_slow, view_of, concluded, net_after}
use Rattle.rules.specs.Refusals.{Event, a_report, a_proposal, event_of, rule_of}
use Rattle.rule_laws.proofs.Walk.{Walk, walk_event}

pub record Shaped (s : State) : Type 0 where
  pub stored : length s.stored ≡ 16
  pub accepted : length s.accepted ≡ 16
  pub used : length s.used ≡ 16
  pub starts : length s.view.starts ≡ 16
  pub slots : (o : ℕ) → length (stored_at s o).proposal.used ≡ 16

abbrev Used16 : Slot → Type 0
Used16 v = length v.proposal.used ≡ 16

-- sixteen slots; what lies outside them counts as nothing
slots_of : (f : ℕ → Slot) → ((o : ℕ) → Used16 (f o)) → (o : ℕ) → Used16 (get_or (tab 16 f) o nothing)
slots_of f h o = go (dec_lt o 16)
  where
    go : Dec (o < 16) → Used16 (get_or (tab 16 f) o nothing)
    go (yes l) = rw (get_or_tab 16 f o nothing l) (h o)
    go (no l) = let n = length_tab 16 f in
        rw (get_or-eq_default (tab 16 f) nothing {n = o} (omega arith)) (length_tab 16 _)

-- one slot replaced
slot_put : (s : State) (i : ℕ) (v : Slot) → Shaped s → Used16 v → (o : ℕ)
    → Used16 (get_or (tab 16 (upd (stored_at s) i v)) o nothing)
slot_put s i v h u =
    slots_of (upd (stored_at s) i v)
    (λ o. upd_cases (λ (o : ℕ) (w : Slot). Used16 w) (stored_at s) i v o u (λ n. h.slots o))

module _ (s : State) (h : Shaped s) where
  net_shaped : (x : ℕ) → Shaped (with_net s x)
  unfolding with_net
  net_shaped x = record {
    stored = h.stored;
    slots = h.slots;
    accepted = h.accepted;
    starts = h.starts;
    used = h.used;
  }

  opened_shaped : Shaped (opened s)
  unfolding opened
  opened_shaped = record {
    stored = h.stored;
    slots = h.slots;
    accepted = h.accepted;
    starts = h.starts;
    used = h.used;
  }

  proposed_shaped : (m : Mode) (n : ℕ) → Shaped (proposed m n s)
  unfolding proposed own_proposal
  proposed_shaped m n = record {
    stored = length_tab 16 _;
    slots = slot_put s s.own (keeping (own_proposal m n s)) h (length_tab 16 _);
    accepted = h.accepted;
    starts = h.starts;
    used = h.used;
  }

  received_shaped : (p : Proposal) → length p.used ≡ 16 → Shaped (received s p)
  unfolding received
  received_shaped p u = record {
    stored = length_tab 16 _;
    slots = slot_put s p.sender (keeping p) h u;
    accepted = length_tab 16 _;
    starts = h.starts;
    used = h.used;
  }

  concluded_shaped : Shaped (concluded s)
  unfolding concluded view_of
  concluded_shaped = record {
    stored = length_tab 16 _;
    slots = slots_of (λ o. ifb (serves s.net.bits o) nothing (stored_at s o))
        (λ o. if_cases Used16 (serves s.net.bits o) nothing (stored_at s o) (λ e. length_tab 16 _)
        (λ e. h.slots o));
    accepted = h.accepted;
    starts = length_tab 16 _;
    used = length_tab 16 _;
  }

abbrev Keeps : State → Outcome → Type 0
Keeps s o = Shaped s → Shaped o.state

keeps : Walk Keeps Keeps
unfolding and_then opens proposes_fast proposes_slow
keeps = record {
  idle = λ s i h. h;
  opening = λ s i h. opened_shaped s h;
  fastly = λ s i h. proposed_shaped s h Fast (next_number s);
  slowly = λ s i h. proposed_shaped s h Slow (slow_number s);
  concluding = λ s e h. concluded_shaped s h;
  chain = λ s o f a b h. b (a h);
  whole = λ s o a. a;
  finish = λ s o f a b h. b (a h);
}

-- a proposal that was read has sixteen used numbers
abbrev pub Sixteen : Event → Type 0
Sixteen (a_report r) = Unit {0}
Sixteen (a_proposal p) = length p.used ≡ 16

pub event_shaped : (s : State) (e : Event) → Sixteen e → Shaped s → Shaped (rule_of s e).state
event_shaped s (a_report r) u h = walk_event keeps s (a_report r) (net_shaped s h (net_after s.net.bits r))
event_shaped s (a_proposal p) u h = walk_event keeps s (a_proposal p) (received_shaped s h p u)

-- what is read has them
pub read_sixteen : (b : List ℕ) → Sixteen (event_of b)
unfolding event_of
read_sixteen b = if_cases Sixteen (eqb (mark_of b) 0x4e45) _ _ (λ e. tt) (λ e. used_sixteen b)
