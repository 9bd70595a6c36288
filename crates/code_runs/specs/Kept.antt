-- One server's run on words with its file, which the rooms share. A record is handed to the step, and the answer
-- leaves record by record, by the call before each; or the server is cut off while that goes on, and begins again from
-- its file in the same words, in every room.
use Rattle.std.specs.Prelude.{List, [], ◌∷◌, ◌++◌, ℕ, take, eqb}
use Rattle.laws.specs.Upd.{ifb}
use Rattle.records.specs.Layout.{room_of}
use Rattle.rules.specs.Refusals.{read_check, event_of, all_bytes}
use Rattle.rules.specs.Tables.{no_event}
use Rattle.rooms.specs.Handing.{Handed as RoomHanded}
use Rattle.rooms.specs.Server.{ServerTurn, serves_all, stops_after}
use Rattle.restart.specs.Caller.{Move, caller_moves, filed_by, sent_by}
use Rattle.restart.specs.Restart.{restart_words}
use Rattle.code_runs.specs.Words.{Handed, words_answer}

pub record WordsKept : Type 0 where
  pub words : List ℕ
  pub file : List ℕ

-- the server acts on what it is handed to the end; or it is cut off after so many moves, bytes of the file and records
-- that left
pub data WordsTurn : Type 0 where
  handed : Handed → WordsTurn
  cut_while : (begun : Handed) (done : ℕ) → WordsTurn

-- what it is handed
abbrev pub handed_in : WordsTurn → Handed
handed_in (handed h) = h
handed_in (cut_while h n) = h

abbrev pub bytes_in : WordsTurn → List ℕ
bytes_in t = (handed_in t).bytes

-- the own office, and what is lent for a mark
module _ (own : ℕ) (out : List ℕ) where
  unfoldable pub moves_for : WordsKept → Handed → List Move
  moves_for k h = caller_moves k.file out (all_bytes (room_of h.bytes) (words_answer k.words h).written)

  unfoldable pub moves_at : WordsKept → WordsTurn → List Move
  moves_at k (handed h) = moves_for k h
  moves_at k (cut_while h n) = take n (moves_for k h)

  abbrev pub file_at : WordsKept → WordsTurn → List ℕ
  file_at k t = filed_by k.file (moves_at k t)

  abbrev pub words_at : WordsKept → WordsTurn → List ℕ
  words_at k (handed h) = (words_answer k.words h).words
  words_at k (cut_while h n) = (restart_words own (file_at k (cut_while h n)) k.words).words

  abbrev pub next_kept : WordsKept → WordsTurn → WordsKept
  next_kept k t = record { words = words_at k t; file = file_at k t }

  -- the bytes that leave in a run, record by record
  unfoldable pub bytes_left : WordsKept → List WordsTurn → List (List ℕ)
  bytes_left k [] = []
  bytes_left k (t ∷ ts) = sent_by (moves_at k t) ++ bytes_left (next_kept k t) ts

-- What the rules are handed for it. Bytes that fail checks 4, 5 and 20 hold no event; they do what a report without
-- output does, nothing.
abbrev pub read_handed : Handed → RoomHanded
read_handed h =
    let readable = eqb (read_check h.bytes) 0 in
    record {
      office = h.office;
      event = record { room = room_of h.bytes; what = ifb readable (event_of h.bytes) no_event.what };
      output = ifb readable h.output 0;
    }

abbrev pub read_turn : WordsTurn → ServerTurn
read_turn (handed h) = serves_all (read_handed h)
read_turn (cut_while h n) = stops_after (read_handed h) n
