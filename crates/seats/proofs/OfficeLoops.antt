-- Loops through a sixteen-bit set of offices, from the lowest on.
use mathlib.Core.Path.{◌≡◌, refl, sym, ap, ◌∙◌}
use mathlib.Core.Bool.{Bool, true, false, ◌&&◌, ◌||◌, not, and-true, and-false}
use Prim.Native.Nat.{ℕ, ◌-◌, ◌*◌, ◌%◌, ◌^◌, ◌≤◌, ◌<◌}
use native.Mathlib.Omega.{arith}
use native.Mathlib.Decide.{dec_lt, ℕ_discrete}
use native.Mathlib.Nat.{one-mul, mod-eq_of_lt}
use lib.Pow.{pow-lt}
use lib.Dec.{eqb}
use lib.Bits.{bit_and, and_le_l}
use lib.Count.{count_trailing_zeros}
use borrow.Author.Tests.{eq-eqb, eqb-true, eqb-false, ne_eqb}
use Rattle.laws.proofs.Fin.{true_false, allb_in, anyb_in, none_anyb}
use Rattle.laws.proofs.Loops.{all_fails}
use Rattle.laws.proofs.Lowest.{and_less_one}
use Rattle.seats.specs.Seats.{has}
use Rattle.std.proofs.lemmas.Option.{none-some, same_Some}
use Rattle.std.specs.Prelude.{Option, None, Some}
use Rattle.laws.specs.Upd.{ifb}
use Rattle.seats.specs.Offices.{lowest_of, first_of, every_office, some_office}
use Rattle.seats.proofs.Laws.{has_and, has_not, has_one, has_empty}
use Rattle.seats.proofs.Counts.{lowest_at_most, lowest_in_lem, empty_lowest, trailing_office}

-- the lowest office as it is found: some where the set is not empty
some_is : (t : Bool) {o low : ℕ} → Some o ≡ ifb t None (Some low) → (t ≡ false) × (o ≡ low)
some_is true e = absurd (none-some _ (sym e))
some_is false e = (refl, same_Some _ _ e)

pub first_some : {left o : ℕ} → Some o ≡ first_of left → (left ≡ 0 → ⊥) × (o ≡ lowest_of left)
first_some {left} e = let s = some_is (eqb left 0) e in (eqb-false left 0 s.0, s.1)

pub first_none : {left : ℕ} → None ≡ first_of left → left ≡ 0
first_none {left} e = go (eqb left 0) refl e
  where
    go : (t : Bool) → eqb left 0 ≡ t → None ≡ ifb t None (Some (lowest_of left)) → left ≡ 0
    go true z q = eqb-true left 0 z
    go false z q = absurd (none-some _ q)

-- the set without office o, as the code makes it: left & !(1u16 << o)
abbrev pub dropped : ℕ → ℕ → ℕ
dropped left o = bit_and left (2 ^ 16 - 1 - 1 * 2 ^ o % 2 ^ 16)

one_bit : (o : ℕ) → o < 16 → 1 * 2 ^ o % 2 ^ 16 ≡ 2 ^ o
one_bit o h = rw one-mul (mod-eq_of_lt (pow-lt h))

has_dropped : (left o k : ℕ) → o < 16 → k < 16 → has (dropped left o) k ≡ has left k && not (eqb k o)
has_dropped left o k h l =
    rw (one_bit o h) (has_and left (2 ^ 16 - 1 - 2 ^ o) k
    ∙ ap (λ (t : Bool). has left k && t) (has_not 16 (2 ^ o) k l (pow-lt h) ∙ ap not (has_one o k)))

-- o is the lowest of some offices
module _ {left o : ℕ} (lt : left < 2 ^ 16) (some : left ≡ 0 → ⊥) (low : o ≡ lowest_of left) where
  pub low_office : o < 16
  low_office = rw low (go (dec_lt (lowest_of left) 16) (lowest_at_most left))
    where
      go : Dec (lowest_of left < 16) → lowest_of left ≤ 16 → lowest_of left < 16
      go (yes l) h = l
      go (no n) h = absurd (some (empty_lowest left lt (omega arith)))

  pub low_in : has left o ≡ true
  low_in = rw low (lowest_in_lem left (rw low at low_office))

  low_gone : has (dropped left o) o ≡ false
  low_gone = has_dropped left o o low_office low_office ∙ rw (eq-eqb o o refl) (and-false (has left o))

  -- the others stay
  pub low_other : (k : ℕ) → k < 16 → (k ≡ o → ⊥) → has (dropped left o) k ≡ has left k
  low_other k h n = has_dropped left o k low_office h ∙ rw (ne_eqb k o n) (and-true (has left k))

  -- the number that falls
  pub low_less : dropped left o < left
  low_less = go (ℕ_discrete (dropped left o) left) (and_le_l left _)
    where
      go : Dec (dropped left o ≡ left) → dropped left o ≤ left → dropped left o < left
      go (yes q) h = absurd (true_false _ low_in (rw q at low_gone))
      go (no q) h = omega arith

  -- the set without the lowest, in fewer operations
  pub low_next : bit_and left (left - 1) ≡ dropped left o
  low_next =
      let e : count_trailing_zeros 16 left ≡ o = trailing_office left ∙ sym low in
      rw (one_bit o low_office) (rw e at (and_less_one 16 left lt some))

-- a loop through the offices of `all`, of which `left` remain: it has been at office o
abbrev pub been_at : ℕ → ℕ → ℕ → Bool
been_at all left o = has all o && not (has left o)

pub been_none : (all o : ℕ) → been_at all all o ≡ false
been_none all o = go (has all o)
  where
    go : (t : Bool) → t && not t ≡ false
    go true = refl
    go false = refl

pub been_all : (all o : ℕ) → been_at all 0 o ≡ has all o
been_all all o = rw (has_empty o) (and-true (has all o))

-- what the loop has found of the offices it has been at
pub record Seen (P : ℕ → Type 0) (all left : ℕ) : Type 0 where
  pub below : left < 2 ^ 16
  pub within : (o : ℕ) → o < 16 → has left o ≡ true → has all o ≡ true
  pub found : (o : ℕ) → o < 16 → been_at all left o ≡ true → P o

module _ {P : ℕ → Type 0} {all : ℕ} where
  pub seen_start : all < 2 ^ 16 → Seen P all all
  seen_start lt = record {
    below = lt;
    within = λ o h e. e;
    found = λ o h e. absurd (true_false _ e (been_none all o));
  }

  seen_end : {left : ℕ} → Seen P all left → left ≡ 0 → (o : ℕ) → o < 16 → has all o ≡ true → P o
  seen_end s z o h e = s.found o h (rw z (been_all all o ∙ e))

  module _ {left o : ℕ} (s : Seen P all left) (some : left ≡ 0 → ⊥) (low : o ≡ lowest_of left) where
    pub seen_office : o < 16
    seen_office = low_office s.below some low

    seen_in_lem : has all o ≡ true
    seen_in_lem = s.within o seen_office (low_in s.below some low)

    pub seen_less : dropped left o < left
    seen_less = low_less s.below some low

    -- been at o, and not before; elsewhere as before
    pub been_same : been_at all (dropped left o) o ≡ true
    been_same = rw (seen_in_lem, low_gone s.below some low)

    pub been_not : been_at all left o ≡ false
    been_not = rw (low_in s.below some low, and-false (has all o))

    pub been_other : (k : ℕ) → k < 16 → (k ≡ o → ⊥) → been_at all (dropped left o) k ≡ been_at all left k
    been_other k h n = rw (low_other s.below some low k h n)

    pub seen_step : P o → Seen P all (dropped left o)
    seen_step p = record {
      below = let l = seen_less in let b = s.below in omega arith;
      within = λ k h e. stays k h (ℕ_discrete k o) e;
      found = λ k h e. finds k h (ℕ_discrete k o) e;
    }
      where
        stays : (k : ℕ) → k < 16 → Dec (k ≡ o) → has (dropped left o) k ≡ true → has all k ≡ true
        stays k h (yes q) e = rw q seen_in_lem
        stays k h (no n) e = s.within k h (sym (low_other s.below some low k h n) ∙ e)

        finds : (k : ℕ) → k < 16 → Dec (k ≡ o) → been_at all (dropped left o) k ≡ true → P k
        finds k h (yes q) e = rw q p
        finds k h (no n) e = s.found k h (sym (been_other k h n) ∙ e)

    -- where the code says left & (left - 1)
    pub seen_next : P o → Seen P all (bit_and left (left - 1))
    seen_next p = rw (low_next s.below some low) (seen_step p)

    pub next_less : bit_and left (left - 1) < left
    next_less = rw (low_next s.below some low) seen_less

-- a loop that asks whether a test holds of every office of the set, and stops where it fails; or of some, and stops
-- there
module _ (p : ℕ → Bool) {all : ℕ} where
  pub every_end : {left : ℕ} → Seen (λ o. p o ≡ true) all left → left ≡ 0 → every_office all p ≡ true
  every_end s z = allb_in 16 _ (λ o h. go o h (has all o) refl)
    where
      go : (o : ℕ) → o < 16 → (t : Bool) → has all o ≡ t → not t || p o ≡ true
      go o h true e = seen_end s z o h e
      go o h false e = refl

  pub some_end : {left : ℕ} → Seen (λ o. p o ≡ false) all left → left ≡ 0 → some_office all p ≡ false
  some_end s z = none_anyb 16 _ (λ o h. go o h (has all o) refl)
    where
      go : (o : ℕ) → o < 16 → (t : Bool) → has all o ≡ t → t && p o ≡ false
      go o h true e = seen_end s z o h e
      go o h false e = refl

  module _ {P : ℕ → Type 0} {left o : ℕ} (s : Seen P all left) (some : left ≡ 0 → ⊥) (low : o ≡ lowest_of left) where
    pub every_stops : p o ≡ false → every_office all p ≡ false
    every_stops e = all_fails 16 _ o (seen_office s some low) (rw (seen_in_lem s some low, e))

    pub some_stops : p o ≡ true → some_office all p ≡ true
    some_stops e = anyb_in 16 _ o (seen_office s some low) (rw (seen_in_lem s some low, e))
