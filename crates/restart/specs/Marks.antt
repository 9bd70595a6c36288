-- What a file of high marks answers: whether it passes 18, and its last whole mark, 0 where it does not.
use Rattle.std.specs.Prelude.{Bool, true, false, Option, None, Some, List, ℕ}
use Rattle.laws.specs.Upd.{ifb}
use Rattle.rules.specs.MarkFile.{wholes, high_number, is_high, all_high, last_high, good_file}

pub record Marks : Type 0 where
  pub good : Bool
  pub last : ℕ

-- the number of a record that is such a mark, where the one before it has number p
unfoldable pub high_after : ℕ → List ℕ → Option ℕ
high_after p b = ifb (is_high p b) (Some (high_number b)) None

abbrev pub no_marks : Marks
no_marks = record { good = false; last = 0 }

-- what code answers of it: the last mark, none where the file is not good
abbrev pub marks_as : Option ℕ → Marks
marks_as None = no_marks
marks_as (Some n) = record { good = true; last = n }

-- by its records, whatever its length
unfoldable pub marks_in : List ℕ → Marks
marks_in f = ifb (all_high 0 (wholes f)) (record { good = true; last = last_high f }) no_marks

unfoldable pub marks_of : List ℕ → Marks
marks_of f = ifb (good_file f) (record { good = true; last = last_high f }) no_marks
