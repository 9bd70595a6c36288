-- What a call that changes a row leaves: the same words, in the state changed by f.
use Rattle.std.specs.Prelude.{◌≡◌}
use Rattle.rules.specs.State.{State}
use Rattle.row.specs.Changes.{Changed}
use Rattle.row.specs.declared.lent.RowMut.{RowMut}

pub record Moved (f : State → State) (before after : RowMut) : Type 0 where
  pub same : after.words.ghost_name ≡ before.words.ghost_name
  pub changed : Changed f before.words.now after.words.now
