-- One server: its table, and its file of high marks, which the rooms share. It may be cut off after any byte written
-- to the file and after any record of any room that left; then every room begins again at the last whole mark.
use Rattle.std.specs.Prelude.{List, [], ◌∷◌, ◌++◌, ℕ, eqb, length, take}
use Rattle.laws.specs.Lists.{runs}
use Rattle.laws.specs.Upd.{ifb}
use Rattle.rules.specs.Rules.{Written}
use Rattle.rules.specs.MarkFile.{last_high}
use Rattle.rules.specs.Leaving.{Action, actions_of, file_after, left_in}
use Rattle.rules.specs.Tables.{Table, fresh_table, restart_table}
use Rattle.runs.specs.Office.{Turn, entire, broken}
use Rattle.rooms.specs.Roomed.{Roomed, roomed}
use Rattle.rooms.specs.Handing.{Handed, answer_table, next_table, input_of}

pub record Server : Type 0 where
  pub table : Table
  pub file : List ℕ

-- it is handed something and acts on it to the end; or it is cut off after so many actions, bytes of the file and
-- records that left
pub data ServerTurn : Type 0 where
  serves_all : Handed → ServerTurn
  stops_after : (begun : Handed) (done : ℕ) → ServerTurn

-- what is handed at a turn
abbrev pub served_at : ServerTurn → Handed
served_at (serves_all h) = h
served_at (stops_after h n) = h

unfoldable pub done_by : Server → ServerTurn → List Action
done_by s (serves_all h) = actions_of s.file (answer_table s.table h).written
done_by s (stops_after h n) = take n (actions_of s.file (answer_table s.table h).written)

abbrev pub file_by : Server → ServerTurn → List ℕ
file_by s u = file_after s.file (done_by s u)

-- the turn of one office that room k sees: its own events; a cut in an event of another room is one in which nothing
-- of its own had left
unfoldable pub turn_in : ℕ → Server → ServerTurn → List Turn
turn_in k s (serves_all h) = ifb (eqb h.event.room k) (entire (input_of h) ∷ []) []
turn_in k s (stops_after h n) =
    let u = stops_after h n in
    broken (input_of h) (ifb (eqb h.event.room k) (length (left_in (done_by s u))) 0) (last_high (file_by s u)) ∷ []

-- the server of office own
module _ (own : ℕ) where
  -- the restart makes every room of the file that is left
  abbrev pub table_by : Server → ServerTurn → Table
  table_by s (serves_all h) = next_table s.table h
  table_by s (stops_after h n) = (restart_table own (file_by s (stops_after h n))).table

  unfoldable pub next_server : Server → ServerTurn → Server
  next_server s u = record { table = table_by s u; file = file_by s u }

  -- a fresh table and an empty file
  abbrev pub fresh_server : Server
  fresh_server = record { table = fresh_table own; file = [] }

  abbrev pub server_after : Server → List ServerTurn → Server
  server_after = runs next_server

  -- the records that leave in a run, in order
  unfoldable pub server_left : Server → List ServerTurn → List (Roomed Written)
  server_left s [] = []
  server_left s (u ∷ us) = roomed (served_at u).event.room (left_in (done_by s u)) ++ server_left (next_server s u) us

  unfoldable pub turns_in : ℕ → Server → List ServerTurn → List Turn
  turns_in k s [] = []
  turns_in k s (u ∷ us) = turn_in k s u ++ turns_in k (next_server s u) us
