-- A report's bytes, and the step as a call from C: one number as its answer, the words and the bytes at the end.
use Rattle.std.specs.Prelude.{List, [], ℕ, length}
use Rattle.std.proofs.lemmas.List.Edits.{sets}
use Rattle.laws.specs.Upd.{ifb}
use Rattle.records.specs.Numbers.{room_above}
use Rattle.records.specs.Layout.{room_of, encode_report}
use Rattle.rules.specs.Refusals.{all_bytes, size}
use Rattle.step.specs.Step.{WordsResult, step_words}
use Rattle.calls.specs.Number.{call_number}

-- the report of two sets in a room; a room above 7 has none
unfoldable pub report_bytes : ℕ → ℕ → ℕ → List ℕ
report_bytes room joining leaving =
    ifb (room_above room) []
    (encode_report room (record { joining = record { bits = joining }; leaving = record { bits = leaving } }))

pub record Called : Type 0 where
  pub answer : ℕ
  pub words : List ℕ
  pub bytes : List ℕ

-- the answer's value is how many bytes were written; they stand at the front of the output
abbrev pub called_of : ℕ → List ℕ → WordsResult → Called
called_of room o q =
    record {
      answer = call_number (size q.written) q.refusal;
      words = q.words;
      bytes = sets o 0 (all_bytes room q.written);
    }

unfoldable pub call_of : ℕ → List ℕ → List ℕ → List ℕ → Called
call_of office ws b o = called_of (room_of b) o (step_words office ws b (length o))
