-- Making a table in words: what comes back, and what the words are at the end.
use Rattle.std.specs.Prelude.{List, ℕ, length, eqb, leb}
use Rattle.laws.specs.Upd.{ifb}
use Rattle.rules.specs.Tables.{made_table}
use Rattle.row.specs.Table.{table_length, table_words}

-- 1 comes first and gives the fresh table of office 0; words of another length get 2 (1 where the office is above 15)
-- and stay.
pub record MadeWords : Type 0 where
  pub refusal : ℕ
  pub words : List ℕ

unfoldable pub fresh_words : ℕ → List ℕ → MadeWords
fresh_words office ws =
    ifb (eqb (length ws) table_length)
    (record { refusal = (made_table office).refusal; words = table_words (made_table office).table })
    (record { refusal = ifb (leb office 15) 2 1; words = ws })
