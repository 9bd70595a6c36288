-- For agreement: the agreement test by its cases.
use mathlib.Core.Path.{◌≡◌, refl, sym, ap, ◌∙◌}
use mathlib.Core.Bool.{Bool, true, false, not, ◌&&◌, ◌||◌, and-false}
use Prim.Native.Nat.{ℕ, ◌-◌, ◌^◌, ◌<◌}
use native.Mathlib.Omega.{arith}
use lib.Bits.{bit_and, and_le_l}
use lib.Dec.{eqb}
use borrow.Author.Tests.{not-true, eq-eqb, ne_eqb}
use Rattle.std.specs.Prelude.{Option, is_some, unwrap_or, IfSome}
use Rattle.std.specs.Prelude as Found
use Rattle.laws.proofs.Fin.{and_l, and_r, true_false}
use Rattle.laws.proofs.Loops.{all_fails}
use Rattle.seats.specs.Seats.{has}
use Rattle.seats.specs.Offices.{serves, offices_of, lowest_of}
use Rattle.seats.proofs.Laws.{has_and, has_not}
use Rattle.seats.proofs.OfficeLaws.{has_offices, offices_lt}
use Rattle.seats.proofs.OfficeLoops.{low_office, low_in}
use Rattle.records.specs.declared.View.{View}
use Rattle.rules.specs.State.{Mode, None, Fast, Slow, State, stored_at}
use Rattle.rules.specs.Rules.{view, nothing_written, agrees_kind, agrees_in, is_none, agreed, view_of, concluded}
use Rattle.rules.specs.Rules.{agreement_test}
use Rattle.row.specs.Row.{presence}
use Rattle.row.proofs.Presence.{has_presence, presence_lt}
use Rattle.event_parts.proofs.Dones.{one}

pub agreement_not : (s : State) → agreed s ≡ false → nothing_written s ≡ agreement_test s
unfolding agreement_test
agreement_not s e = rw e

pub agreement_is : (s : State) (v : View) → agreed s ≡ true → v ≡ view_of s
    → one concluded (view v) s ≡ agreement_test s
unfolding agreement_test
agreement_is s v e w = rw (e, w)

-- an office of the net view for which nothing is stored
module _ (s : State) (o : ℕ) (lt : o < 16) (here : serves s.net.bits o ≡ true)
    (absent : (stored_at s o).present ≡ false) where
  absent_in : (m : Mode) → agrees_in m s o ≡ false
  unfolding agrees_kind
  absent_in None = refl
  absent_in Fast = rw absent
  absent_in Slow = rw absent

  absent_not : agreed s ≡ false
  unfolding agreed
  absent_not =
      ap (λ (t : Bool). not (is_none s.mode) && t)
      (all_fails 16 (λ k. not (serves s.net.bits k) || agrees_in s.mode s k) o lt
      (rw (here, absent_in s.mode))) ∙ and-false (not (is_none s.mode))

-- as the code finds it
pub absent_disagrees : (s : State) (b : ℕ) → b ≡ bit_and (offices_of s.net.bits) (2 ^ 16 - 1 - presence s)
    → (b ≡ 0 → ⊥) → agreed s ≡ false
absent_disagrees s b e some =
    absent_not s (lowest_of b) lt
    (sym (has_offices s.net.bits (lowest_of b) lt) ∙ and_l _ (has (2 ^ 16 - 1 - presence s) (lowest_of b)) both)
    (sym (has_presence s (lowest_of b) lt) ∙ not-true _ (sym (has_not 16 (presence s) (lowest_of b) lt (presence_lt s))
    ∙ and_r (has (offices_of s.net.bits) (lowest_of b)) _ both))
  where
    below : b < 2 ^ 16
    below = let l = offices_lt s.net.bits in let m = and_le_l (offices_of s.net.bits) (2 ^ 16 - 1 - presence s) in
        omega arith

    lt : lowest_of b < 16
    lt = low_office below some refl

    both : has (offices_of s.net.bits) (lowest_of b) && has (2 ^ 16 - 1 - presence s) (lowest_of b) ≡ true
    both =
        sym (has_and (offices_of s.net.bits) (2 ^ 16 - 1 - presence s) (lowest_of b))
        ∙ ap (λ (x : ℕ). has x (lowest_of b)) (sym e) ∙ low_in below some refl

-- no office is found exactly where the lowest is 16
pub none_found : (r : Option ℕ) (b : Bool) (n : ℕ) → is_some r ≡ not b → unwrap_or r 16 ≡ n → IfSome r (λ o. o < 16)
    → b ≡ eqb n 16
none_found Found.None true n e w l = sym (eq-eqb n 16 (sym w))
none_found Found.None false n e w l = absurd (true_false false e refl)
none_found (Found.Some o) true n e w l = absurd (true_false true refl e)
none_found (Found.Some o) false n e w l = sym (ne_eqb n 16 (λ q. omega arith))
