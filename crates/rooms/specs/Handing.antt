-- A table between restarts: events handed to it one after another, its answers, the records it sends; and what of all
-- this is of one room.
use Rattle.std.specs.Prelude.{List, [], ◌∷◌, ◌++◌, ℕ, eqb}
use Rattle.laws.specs.Lists.{runs}
use Rattle.laws.specs.Upd.{ifb}
use Rattle.rules.specs.Rules.{Written}
use Rattle.rules.specs.Refusals.{Result}
use Rattle.rules.specs.Tables.{Table, RoomEvent, TableResult, shown_in, take_table}
use Rattle.runs.specs.Office.{Input}
use Rattle.rooms.specs.Roomed.{Roomed, roomed}

-- what is handed to a table: the office for which it is read, an event of a room, and an output of length output
pub record Handed : Type 0 where
  pub office : ℕ
  pub event : RoomEvent
  pub output : ℕ

unfoldable pub answer_table : Table → Handed → TableResult
answer_table t h = take_table h.office t h.event h.output

abbrev pub next_table : Table → Handed → Table
next_table t h = (answer_table t h).table

-- the run from a table: the table after, and the records sent, in order
abbrev pub table_after : Table → List Handed → Table
table_after = runs next_table

unfoldable pub table_sent : Table → List Handed → List (Roomed Written)
table_sent t [] = []
table_sent t (h ∷ hs) = roomed h.event.room (answer_table t h).written ++ table_sent (next_table t h) hs

-- the answers to the events of room k, in order
unfoldable pub answers_in : ℕ → Table → List Handed → List Result
answers_in k t [] = []
answers_in k t (h ∷ hs) =
    let rest = answers_in k (next_table t h) hs in
    ifb (eqb h.event.room k) (shown_in k (answer_table t h) ∷ rest) rest

-- what room k is handed, as a state alone would be
abbrev pub input_of : Handed → Input
input_of h = record { office = h.office; event = h.event.what; room = h.output }

unfoldable pub inputs_in : ℕ → List Handed → List Input
inputs_in k [] = []
inputs_in k (h ∷ hs) = ifb (eqb h.event.room k) (input_of h ∷ inputs_in k hs) (inputs_in k hs)
