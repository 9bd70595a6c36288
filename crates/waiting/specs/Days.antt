-- Whom office 0 waits for after document 01's days: what the definition gives, and what is to be said.
use Rattle.std.specs.Prelude.{List, [], ◌∷◌}
use Rattle.rules.specs.Rules.{fresh}
use Rattle.rules.specs.Days.{reported, day_a, day_b, day_c, day_g, day_i}
use Rattle.waiting.specs.declared.Waiting.{Waiting}
use Rattle.waiting.specs.declared.Waiting.TheVariants as answers
use Rattle.waiting.specs.Waiting.{waiting_for}

-- day I is the report after the proposal; after B seat 0 leaves, or seat 8 joins; office 16 has no state
unfoldable pub answers_computed : List Waiting
answers_computed =
    waiting_for (fresh 0)
    ∷ waiting_for day_a.state ∷ waiting_for day_b.state ∷ waiting_for day_c.state ∷ waiting_for day_g.state
    ∷ waiting_for (reported day_i.state 0b10001 0).state
    ∷ waiting_for (reported day_b.state 0 0b1).state
    ∷ waiting_for (reported day_b.state 0b100000000 0).state
    ∷ waiting_for (fresh 16)
    ∷ []

unfoldable pub answers_stated : List Waiting
answers_stated =
    answers.Nobody
    ∷ answers.Nobody ∷ answers.For 1 ∷ answers.Nobody ∷ answers.For 1
    ∷ answers.For 1
    ∷ answers.Nobody
    ∷ answers.For 1
    ∷ answers.Malformed
    ∷ []
