-- Beginning again in words: what comes back, and what the words are at the end.
use Rattle.std.specs.Prelude.{true, List, [], ◌∷◌, ◌++◌, ℕ, length, eqb}
use Rattle.laws.specs.Checks.{first_of}
use Rattle.laws.specs.Upd.{ifb}
use Rattle.rules.specs.MarkFile.{good_file}
use Rattle.rules.specs.Refusals.{restart_checks}
use Rattle.rules.specs.Tables.{restart_table}
use Rattle.row.specs.Table.{table_length, table_words}
use Rattle.step.specs.Fresh.{MadeWords}

-- Every room begins again in the same state. 1 and 18 give the fresh table of office 0. Words of another length stay,
-- and get 2 where neither applies.
unfoldable pub restart_words : ℕ → List ℕ → List ℕ → MadeWords
restart_words office f ws =
    ifb (eqb (length ws) table_length)
    (record { refusal = (restart_table office f).refusal; words = table_words (restart_table office f).table })
    (record {
      refusal = first_of (restart_checks office (good_file f) ++ (record { number = 2; applies = true } ∷ []));
      words = ws;
    })
