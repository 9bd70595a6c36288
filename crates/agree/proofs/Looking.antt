-- For lacking: looking through a set of offices from the lowest on.
use mathlib.Core.Path.{◌≡◌, refl, sym, ◌∙◌}
use mathlib.Core.Bool.{Bool, true, false, ◌&&◌, ◌||◌, not, and-true, and-false}
use Prim.Native.Nat.{ℕ, ◌^◌, ◌<◌}
use native.Mathlib.Omega.{arith}
use native.Mathlib.Decide.{ℕ_discrete}
use lib.Dec.{eqb}
use Rattle.laws.proofs.Lowest.{lowest_is, lowest_none, lowest_same}
use Rattle.seats.specs.Seats.{has}
use Rattle.seats.proofs.Laws.{has_empty}
use Rattle.seats.specs.Offices.{offices_of, lowest_of}
use Rattle.seats.proofs.OfficeLaws.{has_offices}
use Rattle.seats.proofs.Counts.{lowest_in_lem, none_lower}
use Rattle.seats.proofs.OfficeLoops.{dropped, low_office, low_other}
use Rattle.seats.specs.declared.SeatSet.{SeatSet}
use Rattle.rules.specs.State.{Mode, None, Fast, Slow, Slot, State, slow, kind_of, stored_at}
use Rattle.rules.specs.Rules.{agrees_kind, agrees_in, is_none}
use Rattle.waiting.specs.Waiting.{lacks, lowest_lacking}
use Rattle.agree.specs.Agrees.{agrees_by, lowest_in}

-- by what the code has read, in mode fast or slow
agrees_by_lem : (s : State) (m : Mode) → s.mode ≡ m → is_none m ≡ false → (o : ℕ)
    → agrees_in m s o ≡ agrees_by (kind_of m) s.number s.net.bits (stored_at s o)
unfolding agrees_by agrees_kind is_none
agrees_by_lem s None e n o = let z : ◌≡◌ {A = ℕ} 0 1 = cc in absurd (omega arith)
agrees_by_lem s Fast e n o = rw e (sym (and-true _))
agrees_by_lem s Slow e n o = rw e

-- the code's answer b at office o
pub agrees_by_code : (s : State) → is_none s.mode ≡ false
    → (mode : Mode) (number : ℕ) (net : SeatSet) (o : ℕ) (b : Bool)
    → mode ≡ s.mode
    → number ≡ s.number → net ≡ s.net → b ≡ not (agrees_by (kind_of mode) number net.bits (stored_at s o))
    → agrees_in s.mode s o ≡ not b
agrees_by_code s n mode number net o b x y z e = agrees_by_lem s s.mode refl n o ∙ back _ _ (rw (x, y, z) at e)
  where
    back : (a b : Bool) → b ≡ not a → a ≡ not b
    back true b q = rw q
    back false b q = rw q

-- and how it finds it
parts_not : (a b c d : Bool) → not a || not b || (c && not d) ≡ not (a && b && (not c || d))
parts_not true true true true = refl
parts_not true true true false = refl
parts_not true true false d = refl
parts_not true false c d = refl
parts_not false b c d = refl

module _ (kind number net : ℕ) (v : Slot) where
  pub not_there : v.present ≡ false → true ≡ not (agrees_by kind number net v)
  unfolding agrees_by
  not_there e = rw e

  pub there : v.present ≡ true
      → let p = v.proposal in
      not (eqb p.kind kind) || not (eqb p.members.bits net)
      || (eqb kind slow && not (eqb p.number number)) ≡ not (agrees_by kind number net v)
  unfolding agrees_by
  there e = rw e (parts_not (eqb v.proposal.kind kind) _ (eqb kind slow) _)

module _ (s : State) where
  -- before the first look
  pub looks_at_all : lowest_in s (offices_of s.net.bits) ≡ lowest_lacking s
  unfolding lowest_in lowest_lacking lacks
  looks_at_all = lowest_same 16 _ _ (λ o l. rw (has_offices s.net.bits o l))

  -- none is left
  pub looked_at_all : lowest_in s 0 ≡ 16
  unfolding lowest_in
  looked_at_all = lowest_none 16 _ (λ o l. rw (has_empty o))

  module _ (b : ℕ) (lt : b < 2 ^ 16) (some : b ≡ 0 → ⊥) where
    abbrev low : lowest_of b < 16
    low = low_office lt some refl

    -- the lowest has not the proposal
    pub stops : agrees_in s.mode s (lowest_of b) ≡ false → lowest_in s b ≡ lowest_of b
    unfolding lowest_in
    stops e = lowest_is 16 _ (lowest_of b) low (rw (lowest_in_lem b low, e)) (λ k l. rw (none_lower b k l))

    -- it has
    pub goes_on : agrees_in s.mode s (lowest_of b) ≡ true → lowest_in s b ≡ lowest_in s (dropped b (lowest_of b))
    unfolding lowest_in
    goes_on e = lowest_same 16 _ _ (λ k l. go k l (ℕ_discrete k (lowest_of b)))
      where
        go : (k : ℕ) → k < 16 → Dec (k ≡ lowest_of b)
            → has b k && not (agrees_in s.mode s k) ≡ has (dropped b (lowest_of b)) k && not (agrees_in s.mode s k)
        go k l (yes q) = rw (
          q,
          e,
          and-false (has b (lowest_of b)),
          and-false (has (dropped b (lowest_of b)) (lowest_of b)),
        )
        go k l (no q) = rw (low_other lt some refl k l q)
