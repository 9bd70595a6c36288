-- What every part of the state is after each part of an event, one law for each.
use mathlib.Core.Path.{◌≡◌, refl}
use Prim.Native.Nat.{ℕ, ◌+◌, ◌^◌, ◌<◌, max}
use Rattle.laws.proofs.Tab.{get_or_tab}
use Rattle.laws.specs.Upd.{ifb, upd}
use Rattle.seats.specs.Offices.{serves}
use Rattle.seats.proofs.Laws.{union_lt, without_lt}
use Rattle.records.specs.Fits.{FitsReport}
use Rattle.records.specs.declared.Report.{Report}
use Rattle.records.specs.declared.Proposal.{Proposal}
use Rattle.records.specs.declared.View.{View}
use Rattle.rules.specs.State.{Mode, None, Slot, State, kind_of, nothing, keeping, stored_at, accepted_at, used_at}
use Rattle.rules.specs.State.{used_for, number_in}
use Rattle.rules.specs.Rules.{fresh, restarted, net_after, with_net, opened, own_proposal, proposed, received}
use Rattle.rules.specs.Rules.{concluded, view_of}

-- the parts of a state, those of an office o for every o below 16
pub record Reads (t : State) (own : ℕ) (mode : Mode) (net : ℕ) (stored : ℕ → Slot) (accepted : ℕ → ℕ) (view : View)
    (start number : ℕ)
    (used : ℕ → ℕ) : Type 0 where
  pub own_is : t.own ≡ own
  pub mode_is : t.mode ≡ mode
  pub net_is : t.net.bits ≡ net
  pub stored_is : (o : ℕ) → o < 16 → stored_at t o ≡ stored o
  pub accepted_is : (o : ℕ) → o < 16 → accepted_at t o ≡ accepted o
  pub view_is : t.view ≡ view
  pub start_is : t.start ≡ start
  pub number_is : t.number ≡ number
  pub used_is : (o : ℕ) → o < 16 → used_at t o ≡ used o

pub restarted_reads : (own m : ℕ)
    → Reads (restarted own m) own None 0 (λ o. nothing) (λ o. 0) (restarted own m).view m m (λ o. 0)
unfolding restarted
restarted_reads own m = record {
  own_is = refl;
  mode_is = refl;
  net_is = refl;
  stored_is = λ o h. get_or_tab 16 (λ k. nothing) o nothing h;
  accepted_is = λ o h. get_or_tab 16 (λ k. 0) o 0 h;
  view_is = refl;
  start_is = refl;
  number_is = refl;
  used_is = λ o h. get_or_tab 16 (λ k. 0) o 0 h;
}

pub restarted_view : (own m : ℕ) → (restarted own m).view.number ≡ m
unfolding restarted
restarted_view own m = refl

-- a fresh state is one restarted at 0
pub fresh_restarted : (own : ℕ) → fresh own ≡ restarted own 0
unfolding fresh
fresh_restarted own = refl

pub fresh_reads : (own : ℕ)
    → Reads (fresh own) own None 0 (λ o. nothing) (λ o. 0) (fresh own).view 0 0 (λ o. 0)
unfolding fresh
fresh_reads own = restarted_reads own 0

-- a report of sets of seats makes a set of seats
pub net_after_fits : (x : ℕ) (r : Report) → x < 2 ^ 64 → FitsReport r → net_after x r < 2 ^ 64
unfolding net_after
net_after_fits x r l f = without_lt _ _ (union_lt _ _ l f.joining)

module _ (s : State) where
  pub with_net_reads : (x : ℕ)
      → Reads (with_net s x) s.own s.mode x (stored_at s) (accepted_at s) s.view s.start s.number
      (used_at s)
  unfolding with_net
  with_net_reads x = record {
    own_is = refl;
    mode_is = refl;
    net_is = refl;
    stored_is = λ o h. refl;
    accepted_is = λ o h. refl;
    view_is = refl;
    start_is = refl;
    number_is = refl;
    used_is = λ o h. refl;
  }

  pub opened_reads : Reads (opened s) s.own s.mode s.net.bits (stored_at s) (accepted_at s) s.view
      (max s.view.number (s.start + 1)) s.number (used_at s)
  unfolding opened
  opened_reads = record {
    own_is = refl;
    mode_is = refl;
    net_is = refl;
    stored_is = λ o h. refl;
    accepted_is = λ o h. refl;
    view_is = refl;
    start_is = refl;
    number_is = refl;
    used_is = λ o h. refl;
  }

  pub proposed_reads : (m : Mode) (n : ℕ) → Reads (proposed m n s) s.own m s.net.bits
      (upd (stored_at s) s.own (keeping (own_proposal m n s))) (accepted_at s) s.view s.start n (used_at s)
  unfolding proposed
  proposed_reads m n = record {
    own_is = refl;
    mode_is = refl;
    net_is = refl;
    stored_is = λ o h. get_or_tab 16 _ o nothing h;
    accepted_is = λ o h. refl;
    view_is = refl;
    start_is = refl;
    number_is = refl;
    used_is = λ o h. refl;
  }

  pub received_reads : (p : Proposal) → Reads (received s p) s.own s.mode s.net.bits
      (upd (stored_at s) p.sender (keeping p)) (upd (accepted_at s) p.sender p.number) s.view s.start
      s.number (used_at s)
  unfolding received
  received_reads p = record {
    own_is = refl;
    mode_is = refl;
    net_is = refl;
    stored_is = λ o h. get_or_tab 16 _ o nothing h;
    accepted_is = λ o h. get_or_tab 16 _ o 0 h;
    view_is = refl;
    start_is = refl;
    number_is = refl;
    used_is = λ o h. refl;
  }

  pub concluded_reads : Reads (concluded s) s.own None s.net.bits
      (λ o. ifb (serves s.net.bits o) nothing (stored_at s o)) (accepted_at s) (view_of s) s.start s.number
      (λ o. ifb (serves s.net.bits o) (number_in (stored_at s o)) (used_at s o))
  unfolding concluded
  concluded_reads = record {
    own_is = refl;
    mode_is = refl;
    net_is = refl;
    stored_is = λ o h. get_or_tab 16 _ o nothing h;
    accepted_is = λ o h. refl;
    view_is = refl;
    start_is = refl;
    number_is = refl;
    used_is = λ o h. get_or_tab 16 _ o 0 h;
  }

  -- what stands in the proposal made
  pub made_is : (m : Mode) (n : ℕ) → ((own_proposal m n s).sender ≡ s.own) × ((own_proposal m n s).kind ≡ kind_of m)
      × ((own_proposal m n s).members.bits ≡ s.net.bits) × ((own_proposal m n s).start ≡ s.start)
      × ((own_proposal m n s).number ≡ n)
  unfolding own_proposal
  made_is m n = (refl, refl, refl, refl, refl)

  pub made_used : (m : Mode) (n o : ℕ) → o < 16
      → used_for (own_proposal m n s) o ≡ ifb (serves s.net.bits o) (used_at s o) 0
  unfolding own_proposal
  made_used m n o h = get_or_tab 16 _ o 0 h
