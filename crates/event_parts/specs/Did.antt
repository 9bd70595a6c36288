-- What a part of an event leaves: the row of the state that it leaves, and what it writes behind what was written
-- before.
use Rattle.std.specs.Prelude.{◌≡◌, List, ℕ, ◌+◌, ◌≤◌, length}
use Rattle.std.proofs.lemmas.List.Edits.{sets}
use Rattle.rules.specs.State.{State}
use Rattle.rules.specs.Rules.{Written, Outcome}
use Rattle.rules.specs.Refusals.{all_bytes, size}
use Rattle.row.specs.Row.{Row, state_of}

-- the records, each with the room, stand from a place on, next is the place after them, and all else is as it was
pub record Appended (room : ℕ) (o : List ℕ) (at : ℕ) (records : List Written) (next : ℕ) (o' : List ℕ) : Type 0 where
  pub place : next ≡ at + size records
  pub output : o' ≡ sets o at (all_bytes room records)

pub record Did (room : ℕ) (part : State → Outcome) (ws out : List ℕ) (at : ℕ) (ws' out' : List ℕ) (next : ℕ)
    : Type 0 where
  pub is : state_of ws' ≡ (part (state_of ws)).state
  pub row : Row ws'
  pub written : Appended room out at (part (state_of ws)).written next out'

-- what the part writes has room
abbrev pub Fits : (State → Outcome) → List ℕ → List ℕ → ℕ → Type 0
Fits part ws out at = at + size (part (state_of ws)).written ≤ length out
