-- The file of high marks and the mark before a record, as calls from C.
use Rattle.std.specs.Prelude.{List, ℕ, ◌+◌, ◌*◌}
use Rattle.laws.specs.Upd.{ifb}
use Rattle.rules.specs.MarkFile.{last_high, good_file}
use Rattle.restart.specs.Before.{DueMark}
use Rattle.restart.specs.Before.{before_of}
use Rattle.calls.specs.Number.{call_number}

-- the value is the number of the last whole mark; 0 with the refusal
unfoldable pub last_mark_call : List ℕ → ℕ
last_mark_call f = ifb (good_file f) (call_number (last_high f) 0) (call_number 0 18)

-- the value is 256 times the last mark once the record may leave, and the record's length
abbrev pub before_number : DueMark → ℕ
before_number b = call_number (256 * b.mark + b.length) b.refusal

unfoldable pub before_call : ℕ → List ℕ → ℕ → ℕ
before_call last rest output = before_number (before_of last rest output)
