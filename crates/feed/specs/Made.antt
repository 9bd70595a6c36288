-- The table that the program makes.
use Rattle.std.specs.Prelude.{◌≡◌, Bool, true, List, ◌∷◌, ℕ, ◌<◌}
use Rattle.laws.specs.Upd.{ifb}
use Rattle.row.specs.Table.{table_of, SoundTable}
use Rattle.step.specs.Held.{OfOffice}
use Rattle.text.specs.Lines.{lines_of, no_office, text_of}

-- the first byte of the input makes a table of an office, or else the one line is due
pub record TableMade (office : ℕ) (made : Bool) (ws' : List ℕ) : Type 0 where
  pub known : made ≡ true → office < 16
  pub sound : made ≡ true → SoundTable ws'
  pub own : made ≡ true → OfOffice office ws'
  pub text : (traced : Bool) (f : List ℕ)
      → text_of traced (office ∷ f) ≡ ifb made (lines_of traced office (table_of ws') 0 f) no_office
