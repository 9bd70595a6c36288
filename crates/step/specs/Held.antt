-- The step on a table of words that its caller keeps: check 2 is known to pass, and every room to be of the office.
use Rattle.std.specs.Prelude.{◌≡◌, List, ℕ, ◌<◌}
use Rattle.std.proofs.lemmas.List.Edits.{sets}
use Rattle.records.specs.Numbers.{room_count}
use Rattle.rules.specs.Refusals.{all_bytes, size}
use Rattle.rules.specs.Tables.{TableResult}
use Rattle.row.specs.Table.{table_of, SoundTable}

-- every room is of the office
abbrev pub OfOffice : ℕ → List ℕ → Type 0
OfOffice office ws = (room : ℕ) → room < room_count → (table_of ws room).own ≡ office

-- the answer, the states and the bytes are the result's, the table passes check 2 again, and its rooms are of the
-- office
pub record HeldStep (office room : ℕ) (q : TableResult) (o : List ℕ) (refusal written : ℕ) (ws' o' : List ℕ)
    : Type 0 where
  pub same_refusal : refusal ≡ q.refusal
  pub same_written : written ≡ size q.written
  pub sound : SoundTable ws'
  pub of_office : OfOffice office ws'
  pub same_table : table_of ws' ≡ q.table
  pub same_out : o' ≡ sets o 0 (all_bytes room q.written)
