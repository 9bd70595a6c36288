-- Cuts with their files: one office and its file of high marks, sixteen offices and theirs. An office may be cut off
-- after any byte written to its file and after any record that left; it begins again at the last whole mark of the
-- file. Such a list of events is one of World.antt, where a cut names the records that had left and the number at
-- which the office begins again.
use Rattle.std.specs.Prelude.{List, [], ◌∷◌, ◌++◌, ℕ, length, take}
use Rattle.laws.specs.Lists.{runs}
use Rattle.laws.specs.Upd.{upd}
use Rattle.rules.specs.MarkFile.{last_high}
use Rattle.records.specs.declared.Report.{Report}
use Rattle.rules.specs.State.{State}
use Rattle.rules.specs.Rules.{Written, fresh}
use Rattle.rules.specs.Leaving.{Action, actions_of, file_after, left_in}
use Rattle.rules.specs.Refusals.{Made, restart_of}
use Rattle.runs.specs.Office.{Input, answer_to, Turn, entire, broken}
use Rattle.runs.specs.World.{Item, World, at_first, Underway, begun_report, begun_delivery, WorldEvent, report}
use Rattle.runs.specs.World.{delivery, loss, cut, begun_writes, next}

-- one office and its file
pub record KeptOffice : Type 0 where
  pub state : State
  pub file : List ℕ

-- it is handed something and acts on it to the end; or it is cut off after so many actions, bytes of the file and
-- records that left
pub data FileTurn : Type 0 where
  acts : Input → FileTurn
  cut_after : (begun : Input) (done : ℕ) → FileTurn

unfoldable pub done : KeptOffice → FileTurn → List Action
done k (acts h) = actions_of k.file (answer_to k.state h).written
done k (cut_after h n) = take n (actions_of k.file (answer_to k.state h).written)

-- what the restart makes of the file that is left
unfoldable pub restart_after : KeptOffice → FileTurn → Made
restart_after k t = restart_of k.state.own (file_after k.file (done k t))

abbrev pub state_at : KeptOffice → FileTurn → State
state_at k (acts h) = (answer_to k.state h).state
state_at k (cut_after h n) = (restart_after k (cut_after h n)).state

unfoldable pub next_kept : KeptOffice → FileTurn → KeptOffice
next_kept k t = record { state = state_at k t; file = file_after k.file (done k t) }

-- a fresh office and an empty file
abbrev pub fresh_kept : ℕ → KeptOffice
fresh_kept own = record { state = fresh own; file = [] }

abbrev pub kept_after : KeptOffice → List FileTurn → KeptOffice
kept_after = runs next_kept

-- the records that leave in a run, in order
unfoldable pub left_kept : KeptOffice → List FileTurn → List Written
left_kept k [] = []
left_kept k (t ∷ ts) = left_in (done k t) ++ left_kept (next_kept k t) ts

-- what is handed at a turn
abbrev pub begins_with : FileTurn → Input
begins_with (acts h) = h
begins_with (cut_after h n) = h

-- the turn of Office.antt that it is: a cut names the records that had left and the number at which the office begins
-- again
abbrev pub turn_of : KeptOffice → FileTurn → Turn
turn_of k (acts h) = entire h
turn_of k (cut_after h n) =
    broken h (length (left_in (done k (cut_after h n)))) (last_high (file_after k.file (done k (cut_after h n))))

unfoldable pub turns_of : KeptOffice → List FileTurn → List Turn
turns_of k [] = []
turns_of k (t ∷ ts) = turn_of k t ∷ turns_of (next_kept k t) ts

-- sixteen offices and their files
pub record Filed : Type 0 where
  pub world : World
  pub file : ℕ → List ℕ

pub data FileEvent : Type 0 where
  reports : (office : ℕ) (r : Report) (room : ℕ) → FileEvent
  delivers : (from to room : ℕ) → FileEvent
  loses : (from to place : ℕ) → FileEvent
  cuts : (office : ℕ) (begun : Underway) (done : ℕ) → FileEvent

-- the office at which an event is, what it does to its file and what leaves it
abbrev pub office_at : FileEvent → ℕ
office_at (reports o r room) = o
office_at (delivers i j room) = j
office_at (loses i j place) = i
office_at (cuts o b n) = o

unfoldable pub done_at : Filed → FileEvent → List Action
done_at f (reports o r room) = actions_of (f.file o) (begun_writes f.world o (begun_report r room))
done_at f (delivers i j room) = actions_of (f.file j) (begun_writes f.world j (begun_delivery i room))
done_at f (loses i j place) = []
done_at f (cuts o b n) = take n (actions_of (f.file o) (begun_writes f.world o b))

abbrev pub file_next : Filed → FileEvent → List ℕ
file_next f e = file_after (f.file (office_at e)) (done_at f e)

-- the event of World.antt that it is
abbrev pub plain : Filed → FileEvent → WorldEvent
plain f (reports o r room) = report o r room
plain f (delivers i j room) = delivery i j room
plain f (loses i j place) = loss i j place
plain f (cuts o b n) = cut o b (length (left_in (done_at f (cuts o b n)))) (last_high (file_next f (cuts o b n)))

unfoldable pub next_filed : Filed → FileEvent → Filed
next_filed f e = record { world = next f.world (plain f e); file = upd f.file (office_at e) (file_next f e) }

unfoldable pub plainly : Filed → List FileEvent → List WorldEvent
plainly f [] = []
plainly f (e ∷ es) = plain f e ∷ plainly (next_filed f e) es

abbrev pub filed_first : (ℕ → State) → (ℕ → ℕ → List Item) → (ℕ → List ℕ) → Filed
filed_first states links files = record { world = at_first states links; file = files }
