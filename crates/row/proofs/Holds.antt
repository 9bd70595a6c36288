-- For the crates above: words that are a row and hold a state.
use mathlib.Core.Path.{◌≡◌}
use mathlib.Core.List.{List}
use Prim.Native.Nat.{ℕ}
use Rattle.rules.specs.State.{State}
use Rattle.rule_laws.proofs.Shapes.{Shaped}
use Rattle.row.specs.Row.{Row, state_of, words_of}
use Rattle.row.proofs.Words.{words_row, state_words}

abbrev pub Holds : List ℕ → State → Type 0
Holds ws s = Row ws × (state_of ws ≡ s)

-- the words of a shaped state hold it
pub shaped_holds : (s : State) → Shaped s → Holds (words_of s) s
shaped_holds s h = (words_row s h, state_words s h)
