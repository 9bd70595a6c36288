-- The modes: none and the others, and by the kind of proposal that a mode waits for.
use mathlib.Core.Path.{◌≡◌, refl, sym, ◌∙◌}
use mathlib.Core.Bool.{true, false}
use lib.Dec.{eqb}
use borrow.Author.Tests.{eq-eqb, ne_eqb}
use Rattle.laws.proofs.Fin.{true_false}
use Rattle.rules.specs.State.{Mode, None, Fast, Slow, kind_of}
use Rattle.rules.specs.Rules.{is_none}

pub none_is : (m : Mode) → is_none m ≡ true → m ≡ None
unfolding is_none
none_is None e = refl
none_is Fast e = absurd (true_false false e refl)
none_is Slow e = absurd (true_false false e refl)

pub busy_is : (m : Mode) → is_none m ≡ false → m ≡ None → ⊥
unfolding is_none
busy_is m e q = let z : is_none None ≡ false = rw q at e in true_false true refl z

pub is_busy : (m : Mode) → (m ≡ None → ⊥) → is_none m ≡ false
unfolding is_none
is_busy None n = absurd (n refl)
is_busy Fast n = refl
is_busy Slow n = refl

-- the kind is 0 in mode none only
pub kind_is_none : (m : Mode) → eqb (kind_of m) 0 ≡ is_none m
unfolding is_none
kind_is_none None = refl
kind_is_none Fast = refl
kind_is_none Slow = refl

pub kind_zero : (m : Mode) → kind_of m ≡ 0 → is_none m ≡ true
kind_zero m e = sym (kind_is_none m) ∙ eq-eqb (kind_of m) 0 e

pub kind_busy : (m : Mode) → (kind_of m ≡ 0 → ⊥) → is_none m ≡ false
kind_busy m n = sym (kind_is_none m) ∙ ne_eqb (kind_of m) 0 n

pub kind_none : (m : Mode) → kind_of m ≡ 0 → m ≡ None
kind_none m e = none_is m (kind_zero m e)
