-- What the program writes, by document 01's section "The program".
use Rattle.std.specs.Prelude.{Bool, not, ◌||◌, List, [], ◌∷◌, ◌++◌, ℕ, zero, suc, ◌+◌, length, eqb}
use Rattle.laws.specs.Upd.{ifb}
use Rattle.records.specs.Layout.{room_of}
use Rattle.records.specs.Run.{run_check, run_first, run_rest}
use Rattle.rules.specs.Refusals.{full_room, all_bytes, size}
use Rattle.rules.specs.Tables.{Table, TableResult, made_table, step_table}
use Rattle.text.specs.Text.{line_of}

-- the record in front, cut by its mark's length; where the reading ends with 4 or 5, all the rest is that record
unfoldable pub front_of : List ℕ → List ℕ
front_of b = ifb (eqb (run_check b) 0) (run_first b) b

-- the input behind it
unfoldable pub behind_of : List ℕ → List ℕ
behind_of b = ifb (eqb (run_check b) 0) (run_rest b) []

-- the step on the record in front: it is read for the office, then acted on
abbrev pub answer_for : ℕ → Table → List ℕ → TableResult
answer_for office t b = step_table office t (front_of b) full_room

-- with 4 or 5 the reading of the input ends
abbrev pub ends_reading : ℕ → Bool
ends_reading refusal = eqb refusal 4 || eqb refusal 5

-- the program then stops
unfoldable pub goes_on : ℕ → Bool
goes_on refusal = not (ends_reading refusal)

-- with 4, 5 or 20 the record is of no room
unfoldable pub roomless : ℕ → Bool
roomless refusal = ends_reading refusal || eqb refusal 20

-- the current view number of the record's room, 0 where it is of none
unfoldable pub view_for : ℕ → TableResult → ℕ
view_for room q = ifb (roomless q.refusal) 0 (q.table room).view.number

-- the line of record n, which names this room: its number, refusal or 0, bytes written, current view number; traced,
-- the bytes behind them
unfoldable pub line_for : Bool → ℕ → ℕ → TableResult → List ℕ
line_for traced n room q =
    line_of n q.refusal (size q.written) (view_for room q) (ifb traced (all_bytes room q.written) [])

-- the lines of at most k records, where n records came before
unfoldable pub lines_in : ℕ → Bool → ℕ → Table → ℕ → List ℕ → List ℕ
lines_in zero traced office t n b = []
lines_in (suc k) traced office t n b =
    let a = answer_for office t b in
    ifb (eqb (length b) 0) []
    (line_for traced (n + 1) (room_of (front_of b)) a
    ++ ifb (goes_on a.refusal) (lines_in k traced office a.table (n + 1) (behind_of b)) [])

-- the text for the rest of an input, which has no more records than bytes
unfoldable pub lines_of : Bool → ℕ → Table → ℕ → List ℕ → List ℕ
lines_of traced office t n b = lines_in (length b) traced office t n b

-- no office byte, or one above 15
unfoldable pub no_office : List ℕ
no_office = line_of 0 1 0 0 []

-- the text for an input: the office, then records end to end
unfoldable pub text_of : Bool → List ℕ → List ℕ
text_of traced [] = no_office
text_of traced (office ∷ b) =
    ifb (eqb (made_table office).refusal 0) (lines_of traced office (made_table office).table 0 b) no_office
