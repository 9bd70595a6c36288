-- What putting a text leaves: it stands where the next one was to go, in the same buffer, and the next goes behind it.
use Rattle.std.specs.Prelude.{◌≡◌, List, ℕ}
use Rattle.text.specs.declared.Text.{Text}
use Rattle.text.specs.Put.{Put}

pub record Added (most : ℕ) (text : List ℕ) (before after : Text) : Type 0 where
  pub same : after.bytes.ghost_name ≡ before.bytes.ghost_name
  pub put : Put most before.bytes.now before.at text after.at after.bytes.now
