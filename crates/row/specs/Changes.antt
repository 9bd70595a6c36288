-- What a call that changes a row leaves.
use Rattle.std.specs.Prelude.{◌≡◌, List, Bool, ℕ}
use Rattle.records.specs.declared.Proposal.{Proposal}
use Rattle.rules.specs.State.{State, stored_at, with_stored}
use Rattle.row.specs.Row.{state_of, Row}

-- what a call that changes a row leaves: the state changed by f, in a row
pub record Changed (f : State → State) (before after : List ℕ) : Type 0 where
  pub is : state_of after ≡ f (state_of before)
  pub row : Row after

-- whether a proposal is stored for office o, and which
unfoldable pub flagging : ℕ → Bool → State → State
flagging o b s = with_stored o (record { present = b; proposal = (stored_at s o).proposal }) s

unfoldable pub filling : ℕ → Proposal → State → State
filling o p s = with_stored o (record { present = (stored_at s o).present; proposal = p }) s
