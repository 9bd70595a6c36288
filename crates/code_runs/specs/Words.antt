-- One server's run on words: records handed to the step one after another, in the words that the last one left.
use Rattle.std.specs.Prelude.{List, [], ◌∷◌, ◌++◌, ℕ, eqb}
use Rattle.laws.specs.Upd.{ifb}
use Rattle.records.specs.Layout.{room_of}
use Rattle.rules.specs.Rules.{Written}
use Rattle.rules.specs.Refusals.{read_check}
use Rattle.rules.specs.Tables.{record_event}
use Rattle.rooms.specs.Roomed.{Roomed, roomed}
use Rattle.rooms.specs.Handing.{Handed as RoomHanded}
use Rattle.step.specs.Step.{WordsResult, step_words}

-- what is handed to the step: the office that the record is read for, its bytes, and an output of length output
pub record Handed : Type 0 where
  pub office : ℕ
  pub bytes : List ℕ
  pub output : ℕ

abbrev pub words_answer : List ℕ → Handed → WordsResult
words_answer ws h = step_words h.office ws h.bytes h.output

-- the words after the run; and all that was written, in order, with the room of the record that it answers
unfoldable pub words_after : List ℕ → List Handed → List ℕ
words_after ws [] = ws
words_after ws (h ∷ hs) = words_after (words_answer ws h).words hs

unfoldable pub words_sent : List ℕ → List Handed → List (Roomed Written)
words_sent ws [] = []
words_sent ws (h ∷ hs) =
    roomed (room_of h.bytes) (words_answer ws h).written ++ words_sent (words_answer ws h).words hs

-- what the table was handed: the event of each record, for its office; bytes that fail checks 4, 5 and 20 hold none
abbrev pub event_in : Handed → RoomHanded
event_in h = record { office = h.office; event = record_event h.bytes; output = h.output }

unfoldable pub events_of : List Handed → List RoomHanded
events_of [] = []
events_of (h ∷ hs) = ifb (eqb (read_check h.bytes) 0) (event_in h ∷ events_of hs) (events_of hs)
