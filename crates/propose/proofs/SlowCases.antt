-- For slow_test: the slow test by its cases.
use mathlib.Core.Path.{◌≡◌, refl}
use mathlib.Core.Bool.{true, false}
use Rattle.rules.specs.State.{Mode, None, Fast, Slow, State}
use Rattle.rules.specs.Rules.{slow_called, and_then, opens, begins_in, nothing_written, proposes_slow, slow_test}

pub slow_first : (s : State) → s.mode ≡ None → and_then (opens s) proposes_slow ≡ slow_test s
unfolding slow_test slow_called
slow_first s e = rw e

pub slow_made : (s : State) → (s.mode ≡ None → ⊥) → slow_called s ≡ true → proposes_slow s ≡ slow_test s
unfolding slow_test and_then
slow_made s n e = rw e (go s.mode n)
  where
    go : (m : Mode) → (m ≡ None → ⊥) → proposes_slow s ≡ and_then (begins_in m s) proposes_slow
    go None q = absurd (q refl)
    go Fast q = refl
    go Slow q = refl

pub slow_quiet : (s : State) → slow_called s ≡ false → nothing_written s ≡ slow_test s
unfolding slow_test
slow_quiet s e = rw e
