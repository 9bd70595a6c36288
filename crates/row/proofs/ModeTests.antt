-- For the crates above: the tests for a mode, as code makes them.
use mathlib.Core.Path.{◌≡◌, refl, ap, ◌∙◌}
use mathlib.Core.Bool.{Bool}
use lib.Dec.{eqb}
use denote.Enum.Bare.{sameb}
use Rattle.rules.specs.State.{Mode, kind_of, fast, slow}
use Rattle.rules.specs.Rules.{is_none}
use Rattle.row.specs.contracts.modes.Mode.{the_type}
use Rattle.row.specs.declared.modes.Mode.{Mode as InCode}
use Rattle.row.specs.declared.modes.Mode.TheVariants as in_code
use Rattle.row.specs.Modes.{meaning}

tests_none : (m : InCode) → sameb the_type m in_code.None ≡ is_none (meaning m)
unfolding is_none
tests_none in_code.None = refl
tests_none in_code.Fast = refl
tests_none in_code.Slow = refl

-- of the mode that was read
pub reads_none : (m : InCode) {mode : Mode} {t : Bool} → meaning m ≡ mode → t ≡ sameb the_type m in_code.None
    → t ≡ is_none mode
reads_none m e q = q ∙ tests_none m ∙ ap is_none e

-- by the kind
pub tests_fast : (m : InCode) → sameb the_type m in_code.Fast ≡ eqb (kind_of (meaning m)) fast
tests_fast in_code.None = refl
tests_fast in_code.Fast = refl
tests_fast in_code.Slow = refl

pub tests_slow : (m : InCode) → sameb the_type m in_code.Slow ≡ eqb (kind_of (meaning m)) slow
tests_slow in_code.None = refl
tests_slow in_code.Fast = refl
tests_slow in_code.Slow = refl
