-- A server on words with its file, cut off wherever, sends what the rules say of such a server; so in each room no
-- number twice, and nothing that a seat refuses or any office answers by 19.
use mathlib.Core.Path.{◌≡◌, refl, sym, ap, ◌∙◌}
use mathlib.Core.Bool.{Bool, true, false}
use mathlib.Core.List.{List, [], ◌∷◌, map, map-append}
use Prim.Native.Nat.{ℕ, ◌≤◌, ◌<◌}
use native.Mathlib.Omega.{arith}
use native.Mathlib.Decide.{ℕ_discrete}
use lib.ListN.{length, take}
use lib.Dec.{eqb}
use borrow.Author.Tests.{ne_eqb}
use Rattle.laws.specs.Big.{Below}
use Rattle.laws.specs.Lists.{Every, none, more}
use Rattle.laws.proofs.Fin.{if_cases}
use Rattle.seats.specs.Seats.{seat_count}
use Rattle.seats.specs.Offices.{office_of}
use Rattle.records.specs.Numbers.{room_count}
use Rattle.records.specs.Layout.{high_length, room_of}
use Rattle.rules.specs.Rules.{Written, fresh}
use Rattle.rules.specs.MarkFile.{good_file}
use Rattle.rules.specs.Leaving.{Action, actions_of, left_in}
use Rattle.rules.specs.Refusals.{read_check, bytes_of, restart_of, event_of}
use Rattle.rules.specs.Tables.{Table, well_table, RoomEvent, restart_table, TableResult, act_table, no_event}
use Rattle.rules.specs.Tables.{record_event, take_table}
use Rattle.rule_laws.proofs.Leaving.{order_passes}
use Rattle.rule_laws.proofs.Tables.{act_2, act_3, take_table_by}
use Rattle.rule_laws.proofs.TableSteps.{step_table_takes}
use Rattle.runs.specs.Office.{OfSeats}
use Rattle.runs.proofs.OfficeFits.{read_fits}
use Rattle.rooms.specs.Roomed.{Roomed, roomed, of_room, room_bytes}
use Rattle.rooms.specs.Handing.{answer_table, input_of}
use Rattle.rooms.specs.Server.{Server, serves_all, stops_after, served_at, done_by, file_by, next_server, fresh_server}
use Rattle.rooms.specs.Server.{server_left}
use Rattle.rooms.proofs.Server.{WellServed, well_after, fresh_served}
use Rattle.desk.specs.Hearing.{fresh_desk}
use Rattle.desk.specs.Rooms.{fresh_rooms}
use Rattle.desk_runs.specs.Sent.{sent_to, hearings}
use Rattle.desk_runs.specs.Rooms.{rooms_hearings}
use Rattle.desk_runs.specs.RoomsSent.{sent_to_desk}
use Rattle.desk_runs.proofs.RoomsRuns.{left_alone, desk_accepts_with_cuts}
use Rattle.row.specs.Table.{table_of, SoundTable}
use Rattle.row.proofs.Tables.{sound_is, sound_length}
use Rattle.restart.specs.Caller.{move_of, sent_by}
use Rattle.restart.proofs.Caller.{table_leaves, take_moves, filed_as, sent_as}
use Rattle.restart.proofs.RestartTables.{restart_holds, restart_sound}
use Rattle.code_runs.specs.Words.{Handed, words_answer}
use Rattle.code_runs.specs.Kept.{WordsKept, WordsTurn, handed, cut_while, bytes_in, moves_for, moves_at, file_at}
use Rattle.code_runs.specs.Kept.{next_kept, bytes_left, read_handed, read_turn}
use Rattle.code_runs.proofs.Answers.{table_skips, wrote, held, still_sound}
use Rattle.code_runs.proofs.Agreeing.{Agree, take_agree}

-- an event without output does nothing: its reading refuses it, or 2 or 3 does
nothing_done : (office : ℕ) (t : Table) (e : RoomEvent) → let q = take_table office t e 0 in
    (q.table ≡ t) × (q.written ≡ [])
nothing_done office t e =
    take_table_by t e 0 office Nothing (λ n. (refl, refl)) (λ z. go (well_table t) refl)
  where
    Nothing : TableResult → Type 0
    Nothing q = (q.table ≡ t) × (q.written ≡ [])

    go : (w : Bool) → well_table t ≡ w → Nothing (act_table t e 0)
    go true w = rw (act_3 t e 0 w (omega arith)) (refl, refl)
    go false w = rw (act_2 t e 0 w) (refl, refl)

-- what the step makes of bytes is what the rules make of the event, where the words hold the rooms of the table
module _ (ws : List ℕ) (s : SoundTable ws) (t : Table) (a : Agree (table_of ws) t) (h : Handed) where
  abbrev answer : TableResult
  answer = answer_table t (read_handed h)

  record Answers : Type 0 where
    written : (words_answer ws h).written ≡ answer.written
    table : Agree (table_of (words_answer ws h).words) answer.table

  answers : Answers
  unfolding answer_table
  answers = go (ℕ_discrete (read_check h.bytes) 0)
    where
      b : List ℕ
      b = h.bytes

      go : Dec (read_check h.bytes ≡ 0) → Answers
      go (yes z) =
          let e = step_table_takes h.office (table_of ws) b h.output z in
          let x = take_agree (table_of ws) t a (record_event b) h.output h.office in
          record {
            written = rw z (wrote ws h (sound_is ws s) ∙ ap (λ (q : TableResult). q.written) e ∙ x.written);
            table = λ room l. rw z (ap (λ (q : Table). q room) (held ws h (sound_is ws s)).1
                ∙ ap (λ (q : TableResult). q.table room) e ∙ x.table room l);
          }
      go (no n) =
          let e = table_skips h.office (table_of ws) b h.output n in
          let q = ne_eqb (read_check b) 0 n in
          let nothing = nothing_done h.office t (record { room = room_of b; what = no_event.what }) in
          record {
            written = rw (q, nothing.1) (wrote ws h (sound_is ws s) ∙ e.1);
            table = λ room l. rw (q, nothing.0)
                (ap (λ (q : Table). q room) ((held ws h (sound_is ws s)).1 ∙ e.0) ∙ a room l);
          }

roomed_bytes : (room : ℕ) (l : List Written) → map room_bytes (roomed room l) ≡ map (bytes_of room) l
roomed_bytes room [] = refl
roomed_bytes room (w ∷ l) = rw (roomed_bytes room l)

first : 0 < room_count
first = omega arith

module _ (own : ℕ) (lt : own < 16) (out : List ℕ) (fits : high_length ≤ length out) where
  -- words and file hold the server's rooms and file
  record Alike (k : WordsKept) (q : Server) (l : List (Roomed Written)) : Type 0 where
    sound : SoundTable k.words
    rooms : Agree (table_of k.words) q.table
    file : k.file ≡ q.file
    kept : WellServed own lt 0 first q l

  module _ (k : WordsKept) (q : Server) (l : List (Roomed Written)) (s : Alike k q l) where
    given : (h : Handed) → Answers k.words s.sound q.table s.rooms h
    given = answers k.words s.sound q.table s.rooms

    good : good_file q.file ≡ true
    good = order_passes _ s.kept.covers.order

    abbrev acted : Handed → List Action
    acted h = actions_of q.file (answer_table q.table (read_handed h)).written

    moves : (h : Handed) → moves_for own out k h ≡ map (move_of (room_of h.bytes)) (acted h)
    unfolding moves_for
    moves h =
        let room = room_of h.bytes in
        let w = wrote k.words h (sound_is _ s.sound) in
        let leaves = table_leaves room q.file good out fits h.office in
        let m = (leaves (table_of k.words) h.bytes h.output).moves in
        rw (s.file, w) (m ∙ ap (λ (ws : List Written). map (move_of room) (actions_of q.file ws))
        (sym w ∙ (given h).written))

    -- the moves of a turn are its actions
    at_turn : (t : WordsTurn) → moves_at own out k t ≡ map (move_of (room_of (bytes_in t))) (done_by q (read_turn t))
    unfolding moves_at done_by
    at_turn (handed h) = moves h
    at_turn (cut_while h n) = ap (take n) (moves h) ∙ take_moves (room_of h.bytes) n (acted h)

    file_at_lem : (t : WordsTurn) → file_at own out k t ≡ file_by q (read_turn t)
    file_at_lem t = rw (at_turn t, s.file) (filed_as (room_of (bytes_in t)) q.file (done_by q (read_turn t)))

    left_by : (t : WordsTurn)
        → sent_by (moves_at own out k t)
        ≡ map room_bytes (roomed (room_of (bytes_in t)) (left_in (done_by q (read_turn t))))
    left_by t =
        let room = room_of (bytes_in t) in
        let done = done_by q (read_turn t) in
        rw (at_turn t) (sent_as room done ∙ sym (roomed_bytes room (left_in done)))

    left_at : (t : WordsTurn) → let u = read_turn t in
        sent_by (moves_at own out k t) ≡ map room_bytes (roomed (served_at u).event.room (left_in (done_by q u)))
    left_at (handed h) = left_by (handed h)
    left_at (cut_while h n) = left_by (cut_while h n)

    next_alike : (t : WordsTurn)
        → (m : List (Roomed Written)) × Alike (next_kept own out k t) (next_server own q (read_turn t)) m
    unfolding next_server
    next_alike (handed h) = (
      _,
      record {
        sound = still_sound k.words h s.sound;
        rooms = (given h).table;
        file = file_at_lem (handed h);
        kept = well_after own lt 0 first q l s.kept (serves_all (read_handed h));
      },
    )
    next_alike (cut_while h n) =
        let g = file_at own out k (cut_while h n) in
        let long = sound_length _ s.sound in
        let e = file_at_lem (cut_while h n) in (
          _,
          record {
            sound = restart_sound own g k.words long;
            rooms = λ room b. (restart_holds own g k.words long room b).1
                ∙ (unfold restart_table in ap (λ (f : List ℕ). (restart_of own f).state) e);
            file = e;
            kept = well_after own lt 0 first q l s.kept (stops_after (read_handed h) n);
          },
        )

  kept_left : (k : WordsKept) (q : Server) (l : List (Roomed Written)) → Alike k q l → (ts : List WordsTurn)
      → bytes_left own out k ts ≡ map room_bytes (server_left own q (map read_turn ts))
  unfolding bytes_left server_left
  kept_left k q l s [] = refl
  kept_left k q l s (t ∷ ts) =
      let n = next_alike k q l s t in
      let u = read_turn t in
      rw (left_at k q l s t, kept_left (next_kept own out k t) (next_server own q u) n.0 n.1 ts)
      (sym (map-append room_bytes (roomed (served_at u).event.room (left_in (done_by q u))) _))

  -- from words that hold the fresh state in every room, and an empty file
  pub code_left : (ws : List ℕ) → SoundTable ws → ((room : ℕ) → room < room_count → table_of ws room ≡ fresh own)
      → (ts : List WordsTurn)
      → bytes_left own out (record { words = ws; file = [] }) ts
      ≡ map room_bytes (server_left own (fresh_server own) (map read_turn ts))
  code_left ws s f =
      kept_left (record { words = ws; file = [] }) (fresh_server own) []
      (record { sound = s; rooms = f; file = refl; kept = fresh_served own lt 0 first })

-- every set handed in is a set of seats
handed_fits : (h : Handed) → Below 256 h.bytes → OfSeats (read_handed h).event.what
handed_fits h b =
    if_cases OfSeats (eqb (read_check h.bytes) 0) (event_of h.bytes) no_event.what (λ e. read_fits h.bytes b)
    (λ e. record { joining = omega arith; leaving = omega arith })

turn_fits : (t : WordsTurn) → Below 256 (bytes_in t) → OfSeats (input_of (served_at (read_turn t))).event
turn_fits (handed h) b = handed_fits h b
turn_fits (cut_while h n) b = handed_fits h b

pub turns_fit : (ts : List WordsTurn) → Every (λ t. Below 256 (bytes_in t)) ts
    → Every (λ u. OfSeats (input_of (served_at u)).event) (map read_turn ts)
turns_fit [] none = none
turns_fit (t ∷ ts) (more b e) = more (turn_fits t b) (turns_fit ts e)

-- what leaves in a room is heard by a seat that was not restarted
pub kept_heard : (seat : ℕ) → seat < seat_count → (room : ℕ) → room < room_count → (ts : List WordsTurn)
    → Every (λ t. Below 256 (bytes_in t)) ts
    → let l = server_left (office_of seat) (fresh_server (office_of seat)) (map read_turn ts) in
    Every (λ h. h.refusal ≡ 0) (hearings room (fresh_desk seat) (sent_to seat (of_room room l)))
kept_heard seat lt room l ts e = left_alone seat lt (map read_turn ts) (turns_fit ts e) room l

-- and in all rooms, as they come, by a desk that was not restarted
pub kept_heard_in_rooms : (seat : ℕ) → seat < seat_count → (ts : List WordsTurn)
    → Every (λ t. Below 256 (bytes_in t)) ts
    → let l = server_left (office_of seat) (fresh_server (office_of seat)) (map read_turn ts) in
    Every (λ h. h.refusal ≡ 0) (rooms_hearings (fresh_rooms seat) (map room_bytes (sent_to_desk seat l)))
kept_heard_in_rooms seat lt ts e = desk_accepts_with_cuts seat lt (map read_turn ts) (turns_fit ts e)
