-- The answer to the question as a call from C.
use Rattle.std.specs.Prelude.{ℕ}
use Rattle.waiting.specs.declared.Waiting.{Waiting}
use Rattle.waiting.specs.Waiting.{refusal_in, value_in}
use Rattle.calls.specs.Number.{call_number}

unfoldable pub number_of : Waiting → ℕ
number_of w = call_number (value_in w) (refusal_in w)
