-- What writing a record leaves: its bytes stand where the next record was to go, and the next goes behind them.
use Rattle.std.specs.Prelude.{◌≡◌, List, ℕ, ◌+◌, length}
use Rattle.std.proofs.lemmas.List.Edits.{sets}
use Rattle.event_parts.specs.declared.output.Output.{Output}

pub record Wrote (bytes : List ℕ) (before after : Output) : Type 0 where
  pub same : after.bytes.ghost_name ≡ before.bytes.ghost_name
  pub room : after.room ≡ before.room
  pub at : after.at ≡ before.at + length bytes
  pub output : after.bytes.now ≡ sets before.bytes.now before.at bytes
