-- The answer from a sheet as a call from C: its number, and the word lent at the end.
use Rattle.std.specs.Prelude.{ℕ}
use Rattle.calls.specs.Number.{call_number}
use Rattle.sheet.specs.declared.Along.{Along}
use Rattle.sheet.specs.declared.Along.TheVariants as answers
use Rattle.sheet.specs.Sheet.{along_refusal, along_value}

pub record InWord : Type 0 where
  pub number : ℕ
  pub members : ℕ

-- a set is put into the word; it stays otherwise
abbrev pub word_after : ℕ → Along → ℕ
word_after word (answers.Refused n) = word
word_after word (answers.Missing seat) = word
word_after word (answers.Members set) = set.bits

unfoldable pub in_word : ℕ → Along → InWord
in_word word a = record { number = call_number (along_value a) (along_refusal a); members = word_after word a }
