-- For round_tests: what the two tests make of a state, as the rules say it.
use mathlib.Core.Path.{◌≡◌, refl}
use Rattle.rules.specs.State.{State}
use Rattle.rules.specs.Rules.{and_then, slow_test, agreement_test, tests}

pub tests_is : (s : State) → and_then (slow_test s) agreement_test ≡ tests s
unfolding tests
tests_is s = refl
