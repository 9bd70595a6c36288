-- The acting call and the step on words: what comes of any words, any event or bytes and any output.
use Rattle.std.specs.Prelude.{◌≡◌, true, ◌&&◌, not, Option, None, Some, List, [], ℕ, ◌≤◌, ◌<◌, length, get_or, eqb}
use Rattle.std.proofs.lemmas.List.Edits.{sets}
use Rattle.laws.specs.Upd.{ifb}
use Rattle.records.specs.Numbers.{room_count, room_above}
use Rattle.rules.specs.Rules.{Written}
use Rattle.rules.specs.Refusals.{well_formed, full_room, Event, form_refusal, Result, act_of, all_bytes, size}
use Rattle.rules.specs.Tables.{RoomEvent, TableResult, act_table, read_of}
use Rattle.row.specs.Row.{state_of, words_of, sound_row, word}
use Rattle.row.specs.declared.lent.RowMut.{RowMut}
use Rattle.row.specs.Held.{held_mut}
use Rattle.event_parts.specs.declared.output.Output.{Output}
use Rattle.row.specs.Table.{with_row, table_of, is_table, sound_table, SoundTable}

-- the refusal or 0, what was written, the words at the end
pub record WordsResult : Type 0 where
  pub refusal : ℕ
  pub written : List Written
  pub words : List ℕ

-- in the row of one room: a refusal leaves the words as they were; acceptance leaves those of the state that the rules
-- leave
abbrev pub in_row : List ℕ → Result → WordsResult
in_row ws q = record {
  refusal = q.refusal;
  written = q.written;
  words = ifb (eqb q.refusal 0) (words_of q.state) ws;
}

unfoldable pub act_row : List ℕ → Event → WordsResult
act_row ws e = in_row ws (act_of (state_of ws) e)

-- in the table: acceptance changes the row of the record's room, and every other word stays
abbrev pub in_words : List ℕ → ℕ → TableResult → WordsResult
in_words ws room q = record {
  refusal = q.refusal;
  written = q.written;
  words = ifb (eqb q.refusal 0) (with_row ws room (words_of (q.table room))) ws;
}

-- nothing done
abbrev pub kept : ℕ → List ℕ → WordsResult
kept n ws = record { refusal = n; written = []; words = ws }

-- the acting call; words that are no table get 2, as a table that fails check 2 does
unfoldable pub act_words : List ℕ → RoomEvent → ℕ → WordsResult
act_words ws e output = ifb (is_table ws) (in_words ws e.room (act_table (table_of ws) e output)) (kept 2 ws)

-- the step: a record is read for an office, then its event acted on
unfoldable pub step_words : ℕ → List ℕ → List ℕ → ℕ → WordsResult
step_words office ws b output =
    let r = read_of office b in
    ifb (eqb r.refusal 0) (act_words ws r.event output) (kept r.refusal ws)

-- the number of the current view of a room; words that fail check 2, and a room above 7, have none
unfoldable pub view_number_words : List ℕ → ℕ → ℕ
view_number_words ws room = ifb (sound_table ws && not (room_above room)) (table_of ws room).view.number 0

-- what code answers of it: none where there is none
unfoldable pub view_found : List ℕ → ℕ → Option ℕ
view_found ws room =
    ifb (sound_table ws && not (room_above room)) (Some (table_of ws room).view.number) None

-- the answer is the result's, the words are the result's, and the bytes of what was written, each record with the
-- room, stand at the front of the output, whose rest is as it was
pub record Stepped (room : ℕ) (q : WordsResult) (o : List ℕ) (refusal written : ℕ) (ws' o' : List ℕ) : Type 0 where
  pub same_refusal : refusal ≡ q.refusal
  pub same_written : written ≡ size q.written
  pub same_words : ws' ≡ q.words
  pub same_out : o' ≡ sets o 0 (all_bytes room q.written)

-- the same of a row and an output that are lent, in the room of the output; that words have 32 bits is known of the
-- words that a row was made of, and not of a row
pub record SteppedRow (e : Event) (row : RowMut) (out : Output) (refusal written : ℕ) (row' : RowMut) (out' : Output)
    : Type 0 where
  pub same_row : row'.words.ghost_name ≡ row.words.ghost_name
  pub same_bytes : out'.bytes.ghost_name ≡ out.bytes.ghost_name
  pub stepped : ((k : ℕ) → get_or row'.words.now k 0 < word)
      → Stepped out.room (act_row row.words.now e) out.bytes.now refusal written row'.words.now out'.bytes.now

-- what the step knows of a room's row, and of the table, once checks 2 and 3 are passed
pub record Ready (ws : List ℕ) (output : ℕ) : Type 0 where
  pub sound : sound_row ws ≡ true
  pub fits : full_room ≤ output

-- of a row and an output that are lent, before the first record
pub record ReadyRow (row : RowMut) (out : Output) : Type 0 where
  pub well : well_formed (held_mut row) ≡ true
  pub first : out.at ≡ 0
  pub fits : full_room ≤ length out.bytes.now

pub record ReadyTable (ws : List ℕ) (output : ℕ) : Type 0 where
  pub sound : SoundTable ws
  pub fits : full_room ≤ output

-- and of the event, once 20 and 6 to 10 and 19 are passed too
pub record ReadyEvent (ws : List ℕ) (e : RoomEvent) (output : ℕ) : Type 0 where
  pub ready : ReadyTable ws output
  pub in_room : e.room < room_count
  pub form : form_refusal (table_of ws e.room).own e.what ≡ 0
