-- What a part of an event leaves of the row and the output that it was lent.
use Rattle.std.specs.Prelude.{◌≡◌, ◌+◌, ◌≤◌, length}
use Rattle.rules.specs.State.{State}
use Rattle.rules.specs.Rules.{Outcome}
use Rattle.rules.specs.Refusals.{full_room}
use Rattle.row.specs.declared.lent.RowMut.{RowMut}
use Rattle.event_parts.specs.Did.{Did, Fits}
use Rattle.event_parts.specs.declared.output.Output.{Output}

-- the same words and bytes, in the state that the part leaves and with what it writes, for the same room
pub record Done (part : State → Outcome) (row : RowMut) (out : Output) (row' : RowMut) (out' : Output)
    : Type 0 where
  pub same_row : row'.words.ghost_name ≡ row.words.ghost_name
  pub same_out : out'.bytes.ghost_name ≡ out.bytes.ghost_name
  pub room : out'.room ≡ out.room
  pub did : Did out.room part row.words.now out.bytes.now out.at row'.words.now out'.bytes.now out'.at

-- the output has the room that every event has enough of
abbrev pub HasFullRoom : Output → Type 0
HasFullRoom out = out.at + full_room ≤ length out.bytes.now

-- what the part writes has room
abbrev pub HasRoom : (State → Outcome) → RowMut → Output → Type 0
HasRoom part row out = Fits part row.words.now out.bytes.now out.at
