-- For slow_look and slow_test: the look at the stored proposals, and the number that the slow test takes from it.
use mathlib.Core.Path.{◌≡◌, refl, sym, ap, ◌∙◌}
use mathlib.Core.Bool.{Bool, true, false, ◌&&◌, ◌||◌, not}
use Prim.Native.Nat.{ℕ, ◌+◌, ◌<◌, ◌^◌, max}
use native.Mathlib.Numerals.{add-one}
use native.Mathlib.Omega.{arith}
use lib.Dec.{eqb, ltb}
use Rattle.laws.specs.Fin.{anyb, largest}
use Rattle.laws.specs.Upd.{ifb}
use Rattle.seats.specs.Offices.{serves}
use Rattle.seats.specs.declared.SeatSet.{SeatSet}
use Rattle.propose.specs.declared.slow_look.Look.{Look}
use Rattle.rules.specs.State.{Slot, State, slow, stored_at}
use Rattle.rules.specs.Rules.{matching, matching_slow, above_own, next_number, joined_number, slow_number}
use Rattle.event_parts.specs.Bounds.{reach, Bounded}
use Rattle.event_parts.proofs.Bounding.{next_bound}
use Rattle.propose.specs.Look.{look_of, looked_of, number_by}

pub look_none : (s : State) → look_of 0 s ≡ record { above = false; joined = 0; top = 0 }
unfolding look_of anyb largest
look_none s = refl

look_one : (n : ℕ) (s : State)
    → look_of (n + 1) s ≡ looked_of s.own s.number s.net.bits n (stored_at s n) (look_of n s)
unfolding look_of looked_of anyb largest matching matching_slow above_own
look_one n s = rw add-one

-- one turn of the loop, by what the code read
pub look_next : (s : State) (n own number : ℕ) (net : SeatSet) (a b : Look) → own ≡ s.own → number ≡ s.number
    → net ≡ s.net → a ≡ look_of n s
    → b ≡ looked_of own number net.bits n (stored_at s n) a → b ≡ look_of (n + 1) s
look_next s n own number net a b x y z w e = e ∙ rw (x, y, z, w) (sym (look_one n s))

and_false : (a : Bool) → a && false ≡ false
and_false true = refl
and_false false = refl

and_true : (a : Bool) → a && true ≡ a
and_true true = refl
and_true false = refl

none_counted : (b : Bool) → ifb {A = ℕ} b 0 0 ≡ 0
none_counted true = refl
none_counted false = refl

-- an empty slot counts for nothing
pub looked_empty : (own number net o : ℕ) (v : Slot) (a : Look) → v.present ≡ false
    → a ≡ looked_of own number net o v a
unfolding looked_of
looked_empty own number net o v a e =
    let z : max 0 a.joined ≡ a.joined = omega arith in
    let y : max 0 a.top ≡ a.top = omega arith in
    rw (e, and_false (not (eqb o own)), none_counted (serves net o), z, y)

pub looked_there : (own number net o : ℕ) (v : Slot) (a : Look) → v.present ≡ true
    → let p = v.proposal in
    let b = not (eqb o own) && eqb p.members.bits net && eqb p.kind slow && ltb number p.number in
    record {
      above = b || a.above;
      joined = max (ifb b p.number 0) a.joined;
      top = max (ifb (serves net o) p.number 0) a.top;
    } ≡ looked_of own number net o v a
unfolding looked_of
looked_there own number net o v a e = rw (e, and_true (not (eqb o own)))

number_by_lem : (s : State) → number_by s.number (look_of 16 s) ≡ slow_number s
unfolding slow_number joined_number next_number look_of
number_by_lem s = refl

-- by what the code read
pub number_found : (s : State) (number : ℕ) (a : Look) → number ≡ s.number → a ≡ look_of 16 s
    → number_by number a ≡ slow_number s
number_found s number a e w = rw (e, w) (number_by_lem s)

next_by : (s : State) → 1 + max s.number (look_of 16 s).top ≡ next_number s
unfolding next_number look_of
next_by s = refl

-- the number fits where the state's numbers are bounded
pub top_fits : (s : State) (number : ℕ) (a : Look) → Bounded reach s → number ≡ s.number → a ≡ look_of 16 s
    → max number a.top + 1 < 2 ^ 32
top_fits s number a h e w =
    let b = next_bound reach s h in
    let n = next_by s in
    let t = ap (λ (x : Look). x.top) w in
    omega arith
