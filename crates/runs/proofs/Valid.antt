-- A proposal that an office makes is one that whoever receives it takes.
use mathlib.Core.Path.{◌≡◌, refl, ◌∙◌}
use mathlib.Core.Bool.{Bool, true, false}
use mathlib.Core.Logic.{◌⊎◌, inl, inr}
use Prim.Native.Nat.{ℕ, ◌^◌, ◌≤◌, ◌<◌}
use native.Mathlib.Omega.{arith}
use lib.ListN.{length, get_or, get_or-eq_default}
use lib.Dec.{ltb}
use borrow.Author.Tests.{ltb-true, ltb-false}
use Rattle.laws.proofs.Fin.{and_l, if_le}
use Rattle.seats.specs.Offices.{serves}
use Rattle.records.specs.Fits.{FitsProposal}
use Rattle.records.specs.declared.Proposal.{Proposal}
use Rattle.rules.specs.State.{State, fast, slow, used_at, used_for}
use Rattle.rules.specs.Rules.{receives}
use Rattle.records.specs.Numbers.{limit}
use Rattle.rule_laws.proofs.Steps.{WellFormed}
use Rattle.runs.proofs.Proposals.{Begun, MadeBetween}

-- a proposal from office i that office j takes, whatever its state has accepted
pub record Valid (i j : ℕ) (p : Proposal) : Type 0 where
  pub sender : p.sender ≡ i
  pub kind : (p.kind ≡ fast) ⊎ (p.kind ≡ slow)
  pub start : (0 < p.start) × (p.start ≤ limit)
  pub number : (0 < p.number) × (p.number ≤ limit)
  pub used : (o : ℕ) → o < 16 → used_for p o ≤ limit
  pub seat : serves p.members.bits i ≡ true
  pub to_seat : serves p.members.bits j ≡ true
  pub stray : (o : ℕ) → o < 16 → serves p.members.bits o ≡ false → used_for p o ≡ 0
  pub used_below : used_for p i < p.number
  pub fits : FitsProposal p

-- where the own used number is not above the own number, that of a proposal made is below its number
pub made_below : (s u : State) (me : ℕ) → me < 16 → used_at s me ≤ s.number → (p : Proposal) → MadeBetween s u p
    → used_for p me < p.number
made_below s u me lt le p m =
    let a = m.number in
    let b = if_le (serves s.net.bits me) (used_at s me) 0 s.number le (omega arith) in
    rw (m.used me lt) (omega arith)

-- a proposal made in a state of office me that has sets of seats and passes check 2, as the state after it does
module _ (s u : State) (me : ℕ) (own : s.own ≡ me) (lt : me < 16) (net : s.net.bits < 2 ^ 64)
    (within : (o : ℕ) → o < 16 → used_at s o ≤ limit) (wf : WellFormed u) where
  used_within : (p : Proposal) → MadeBetween s u p → (o : ℕ) → o < 16 → used_for p o ≤ limit
  used_within p m o l =
      rw (m.used o l) (if_le (serves s.net.bits o) (used_at s o) 0 limit (within o l) (omega arith))

  -- fits its record
  pub made_fits : (p : Proposal) → MadeBetween s u p → FitsProposal p
  made_fits p m =
      let a = m.start.1 in
      let b = m.number in
      let c = wf.start in
      let d = wf.number in
      record {
        sender = let q = m.sender in omega arith;
        kind = small m.kind;
        members = rw m.members net;
        start = omega arith;
        number = omega arith;
        used = record { count = m.sixteen; each = below };
      }
    where
      small : (p.kind ≡ fast) ⊎ (p.kind ≡ slow) → p.kind < 256
      small (inl e) = omega arith
      small (inr e) = omega arith

      below : (k : ℕ) → get_or p.used k 0 < 2 ^ 32
      below k = go (ltb k 16) refl
        where
          go : (t : Bool) → ltb k 16 ≡ t → get_or p.used k 0 < 2 ^ 32
          go true e = let q = used_within p m k (ltb-true k 16 e) in omega arith
          go false e =
              let q = ltb-false k 16 e in
              let n = m.sixteen in
              let h : length p.used ≤ k = omega arith in
              let z : get_or p.used k 0 ≡ 0 = get_or-eq_default p.used 0 h in
              omega arith

  -- and is valid for whoever receives it
  module _ (seat : serves s.net.bits me ≡ true) (behind : used_at s me ≤ s.number) (begun : Begun s) where
    pub made_valid : (p : Proposal) → MadeBetween s u p → (j : ℕ) → receives p j ≡ true → Valid me j p
    unfolding receives
    made_valid p m j r =
        let a = m.start in
        let a1 = a.1 in
        let b = m.number in
        let c = wf.start in
        let d = wf.number in
        record {
          sender = m.sender ∙ own;
          kind = m.kind;
          start = (a.0 begun, omega arith);
          number = (omega arith, omega arith);
          used = used_within p m;
          seat = rw m.members seat;
          to_seat = and_l (serves p.members.bits j) _ r;
          stray = λ o l e. m.used o l ∙ rw (← m.members, e);
          used_below = made_below s u me lt behind p m;
          fits = made_fits p m;
        }
