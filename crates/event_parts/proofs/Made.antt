-- For opening, and for the proposals of the crate above: what the code of a part makes of a state, as the rules say
-- it.
use mathlib.Core.Path.{◌≡◌, refl, sym, ap, ◌∙◌}
use mathlib.Core.Bool.{Bool, true, false}
use Prim.Native.Nat.{ℕ, ◌+◌, max}
use Rattle.laws.specs.Fin.{largest}
use Rattle.laws.specs.Upd.{ifb}
use Rattle.seats.specs.Offices.{serves}
use Rattle.seats.specs.declared.SeatSet.{SeatSet}
use Rattle.records.specs.declared.Proposal.{Proposal}
use Rattle.rules.specs.State.{Mode, Fast, Slow, State, keeping, stored_at}
use Rattle.rules.specs.Rules.{notice, proposal, nothing_written, opened, notice_of, opens, next_number, own_proposal}
use Rattle.rules.specs.Rules.{proposed, has_recipient, proposes_fast, slow_number, proposes_slow}
use Rattle.rule_laws.proofs.Parts.{made_is}
use Rattle.rules.specs.State.{with_mode, with_number, with_start, with_stored}
use Rattle.event_parts.specs.Parts.{counted_at}
use Rattle.event_parts.proofs.Dones.{one}

pub opens_is : (s : State) (start : ℕ) (net : SeatSet) → start ≡ max s.view.number (s.start + 1) → net ≡ s.net
    → one (with_start start) (notice (record { start = start; members = net })) s ≡ opens s
unfolding opens opened notice_of
opens_is s start net e d = rw (e, d)

-- the number of what is stored for an office
pub counted_empty : (net : ℕ) (s : State) (o : ℕ) → (stored_at s o).present ≡ false → 0 ≡ counted_at net s o
counted_empty net s o e = rw e (go (serves net o))
  where
    go : (b : Bool) → 0 ≡ ifb {A = ℕ} b 0 0
    go true = refl
    go false = refl

pub counted_there : (net : ℕ) (s : State) (o : ℕ) → (stored_at s o).present ≡ true
    → ifb (serves net o) (stored_at s o).proposal.number 0 ≡ counted_at net s o
counted_there net s o e = rw e

pub next_is : (s : State) → 1 + max s.number (largest 16 (counted_at s.net.bits s)) ≡ next_number s
unfolding next_number
next_is s = refl

-- the own proposal is stored
pub kept_own : (s : State) (m : Mode) (n : ℕ) (p : Proposal) → p ≡ own_proposal m n s
    → with_mode m (with_number p.number (with_stored p.sender (keeping p) s)) ≡ proposed m n s
unfolding proposed own_proposal
kept_own s m n p e = rw e

pub own_sender : (s : State) (m : Mode) (n : ℕ) (p : Proposal) → p ≡ own_proposal m n s → p.sender ≡ s.own
own_sender s m n p e = ap (λ (q : Proposal). q.sender) e ∙ (made_is s m n).0

own_number_lem : (s : State) (m : Mode) (n : ℕ) (p : Proposal) → p ≡ own_proposal m n s → p.number ≡ n
own_number_lem s m n p e = ap (λ (q : Proposal). q.number) e ∙ (made_is s m n).4

-- a made proposal with the number that it has
pub own_same : (s : State) (m : Mode) (n : ℕ) (p : Proposal) → p ≡ own_proposal m n s → p ≡ own_proposal m p.number s
own_same s m n p e = e ∙ ap (λ (k : ℕ). own_proposal m k s) (sym (own_number_lem s m n p e))

module _ (s : State) (p : Proposal) (e : p ≡ own_proposal Fast (next_number s) s) where
  pub fast_written : has_recipient p ≡ true → one (proposed Fast p.number) (proposal p) s ≡ proposes_fast s
  unfolding proposes_fast
  fast_written h = let k = own_number_lem s Fast (next_number s) p e in rw (← e, h, k)

  pub fast_alone : has_recipient p ≡ false → nothing_written (proposed Fast p.number s) ≡ proposes_fast s
  unfolding proposes_fast
  fast_alone h = let k = own_number_lem s Fast (next_number s) p e in rw (← e, h, k)

pub slow_written : (s : State) (p : Proposal) → p ≡ own_proposal Slow (slow_number s) s
    → one (proposed Slow p.number) (proposal p) s ≡ proposes_slow s
unfolding proposes_slow
slow_written s p e = let k = own_number_lem s Slow (slow_number s) p e in rw (← e, k)
