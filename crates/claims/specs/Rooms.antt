-- Request 9. Eight rooms on one server, in the words of document 02. Each sentence is shown once for an arbitrary room.
use Rattle.std.specs.Prelude.{◌≡◌, true, false, List, [], ◌++◌, ◌∷◌, map, ℕ, ◌≤◌, ◌<◌, length, take}
use Rattle.laws.specs.Lists.{Every, runs}
use Rattle.seats.specs.Seats.{seat_count}
use Rattle.seats.specs.Offices.{office_of}
use Rattle.records.specs.Numbers.{room_count}
use Rattle.records.specs.Layout.{room_of, check_of}
use Rattle.records.specs.declared.View.{View}
use Rattle.rules.specs.MarkFile.{file_limit, last_high}
use Rattle.rules.specs.Rules.{Written, view}
use Rattle.rules.specs.Refusals.{step_of, bytes_of}
use Rattle.rules.specs.Tables.{Table, fresh_table, restarted_table, well_table, restart_table, RoomEvent, shown_in}
use Rattle.rules.specs.Tables.{TableResult, refused_table, in_table, read_of, take_table, step_table}
use Rattle.rule_laws.proofs.Reasons.{Answer}
use Rattle.runs.specs.World.{Item, next}
use Rattle.runs.specs.Office.{OfSeats, NumbersOnce}
use Rattle.rooms.specs.Roomed.{Roomed, of_room, room_bytes}
use Rattle.rooms.specs.Handing.{Handed, table_after, table_sent, answers_in, inputs_in}
use Rattle.rooms.specs.Server.{ServerTurn, served_at, fresh_server, server_after, server_left}
use Rattle.rooms.specs.RoomWorld.{RoomWorld, RoomsEvent, acts_at, rooms_at}
use Rattle.rooms.specs.RoomFiles.{RoomFileEvent}
use Rattle.rooms.specs.Projection.{seen_in, events_in}
use Rattle.rooms.specs.Statement.{SettlesUncutIn, SettlesInRoom}
use Rattle.rooms.proofs.Projection.{AllUniform}
use Rattle.desk.specs.Rooms.{RoomsDesk, fresh_rooms, desk_in, hear_rooms}
use Rattle.desk.specs.Hearing.{hear_of}
use Rattle.desk_runs.specs.Sent.{sent_to}
use Rattle.desk_runs.specs.Syncs.{SyncIn}
use Rattle.desk_runs.specs.Rooms as desks
use Rattle.desk_runs.specs.RoomsSent.{sent_to_desk}
use Rattle.row.specs.Table.{row_at, SoundTable}
use Rattle.step.specs.Step.{step_words}
use Rattle.code_runs.specs.Words as words
use Rattle.text.specs.Lines.{view_for}

-- One table holds eight room states.
pub record Tables : Type 0 where
  -- What is refused is refused with the whole table and the output unchanged,
  pub table_keeps : (office : ℕ) (t : Table) (b : List ℕ) (output : ℕ)
      → ((step_table office t b output).refusal ≡ 0 → ⊥)
      → step_table office t b output ≡ refused_table (step_table office t b output).refusal t
  -- under one number of the list.
  pub table_number : (office : ℕ) (t : Table) (b : List ℕ) (output : ℕ) → Answer (step_table office t b output).refusal
  -- 2 where any room fails it, whatever the record's room, once the record is read;
  pub table_check : (office : ℕ) (t : Table) (b : List ℕ) (output : ℕ) → (read_of office b).refusal ≡ 0
      → well_table t ≡ false → step_table office t b output ≡ refused_table 2 t
  -- 20 when the room is above 7, checked after 5, whatever the table and the output.
  pub room_above : (office : ℕ) (t : Table) (b : List ℕ) (output : ℕ) → office < 16 → check_of b ≡ 0
      → room_count ≤ room_of b → step_table office t b output ≡ refused_table 20 t
  -- Otherwise a record does in its room what it does to that room's state alone,
  pub in_room : (office : ℕ) (t : Table) (b : List ℕ) (output : ℕ) → well_table t ≡ true → room_of b < room_count
      → step_table office t b output ≡ in_table t (room_of b) (step_of office (t (room_of b)) b output)
  -- and no event leaves a table that the next one would refuse.
  pub table_well : (office : ℕ) (t : Table) (b : List ℕ) (output : ℕ) → well_table t ≡ true
      → well_table (step_table office t b output).table ≡ true
  -- The other rooms stay, word for word.
  pub rows_stay : (office : ℕ) (ws b : List ℕ) (output : ℕ) → SoundTable ws → (other : ℕ)
      → (other ≡ room_of b → ⊥) → row_at (step_words office ws b output).words other ≡ row_at ws other
  -- The program prints the current view number of the record's room, and 0 there when the answer is 4, 5 or 20.
  pub view_printed : (room : ℕ) (q : TableResult) → (q.refusal ≡ 4 → ⊥) → (q.refusal ≡ 5 → ⊥)
      → (q.refusal ≡ 20 → ⊥) → view_for room q ≡ (q.table room).view.number
  pub none_printed : (room : ℕ) (q : TableResult) → Every (λ n. q.refusal ≡ n → view_for room q ≡ 0) (4 ∷ 5 ∷ 20 ∷ [])

-- Between restarts, a room's answers and records depend only on that room's records: two tables that both pass check
-- 2 and agree on one room answer its records alike, with the other rooms changed at will.
pub record Isolation : Type 0 where
  -- Over one record, in words: the answer, what is written and the room's own words;
  pub alike : (office : ℕ) (ws vs b : List ℕ) (output : ℕ) → SoundTable ws → SoundTable vs → room_of b < room_count
      → row_at ws (room_of b) ≡ row_at vs (room_of b)
      → ((step_words office ws b output).refusal ≡ (step_words office vs b output).refusal)
      × ((step_words office ws b output).written ≡ (step_words office vs b output).written)
      × (row_at (step_words office ws b output).words (room_of b)
      ≡ row_at (step_words office vs b output).words (room_of b))
  -- over runs, in words, with anything handed to the other rooms in between;
  pub alike_runs : (room : ℕ) → room < room_count → (ws vs : List ℕ) → SoundTable ws → SoundTable vs
      → row_at ws room ≡ row_at vs room → (hs is : List words.Handed)
      → inputs_in room (words.events_of hs) ≡ inputs_in room (words.events_of is)
      → (of_room room (words.words_sent ws hs) ≡ of_room room (words.words_sent vs is))
      × (row_at (words.words_after ws hs) room ≡ row_at (words.words_after vs is) room)
  -- and by the rules, over one event
  pub isolated : (office : ℕ) (t u : Table) (e : RoomEvent) (output : ℕ) → e.room < room_count → well_table t ≡ true
      → well_table u ≡ true → t e.room ≡ u e.room
      → shown_in e.room (take_table office t e output) ≡ shown_in e.room (take_table office u e output)
  -- and over runs: every answer of the room, its state after, and what it sent.
  pub isolated_runs : (k : ℕ) → k < room_count → (t u : Table) → well_table t ≡ true → well_table u ≡ true → t k ≡ u k
      → (hs is : List Handed) → inputs_in k hs ≡ inputs_in k is
      → (answers_in k t hs ≡ answers_in k u is) × (table_after t hs k ≡ table_after u is k)
      × (of_room k (table_sent t hs) ≡ of_room k (table_sent u is))

-- The mark file is shared, so the numbers after a restart depend on all rooms.
pub record SharedFile : Type 0 where
  -- A restart gives every room the same number.
  pub restarted_same : (office : ℕ) (f : List ℕ) → (restart_table office f).refusal ≡ 0 → (room : ℕ)
      → let s = (restart_table office f).table room in
      (s.number ≡ last_high f) × (s.start ≡ last_high f) × (s.view.number ≡ last_high f)
  -- Request 7's showing on numbers, read per room, with cuts after any byte of the file and any record of any room;
  pub room_numbers_once : (own : ℕ) → own < 16 → (k : ℕ) → k < room_count → (us : List ServerTurn)
      → NumbersOnce (of_room k (server_left own (fresh_server own) us))
  -- the shared file is never refused by 18,
  pub shared_file : (own : ℕ) → own < 16 → (us : List ServerTurn)
      → let f = (server_after own (fresh_server own) us).file in
      restart_table own f ≡ record { refusal = 0; table = restarted_table own (last_high f) }
  -- and never passes 20,010 bytes.
  pub shared_file_length : (own : ℕ) → own < 16 → (us : List ServerTurn)
      → length (server_after own (fresh_server own) us).file ≤ file_limit

-- Settling is now read per room, with P and the deliveries counted in that room.
pub record SettlingPerRoom : Type 0 where
  -- What room k shows of the world of rooms, at every point of a list, is the world of one room at that point of the
  -- list as room k sees it.
  pub room_at : (k : ℕ) → k < room_count → (w : RoomWorld) → AllUniform w → (es : List RoomsEvent)
      → Every (λ e. acts_at e < 16) es → (n : ℕ)
      → seen_in k (rooms_at w es n) ≡ runs next (seen_in k w) (take n (events_in k w es))
  -- So demand 3 holds in each room,
  pub settling_in_room : (tables : ℕ → Table) (links : ℕ → ℕ → List (Roomed Item)) (k : ℕ) → k < room_count
      → (es : List RoomsEvent) (A : ℕ) → SettlesUncutIn tables links es k A
  -- and with cuts and one file of a server for all its rooms.
  pub settling_in_room_with_files : (tables : ℕ → Table) (links : ℕ → ℕ → List (Roomed Item)) (k : ℕ)
      → k < room_count → (files : ℕ → List ℕ) (fs : List RoomFileEvent) (A : ℕ)
      → SettlesInRoom tables links files fs k A

-- A desk keeps a seat machine for each room.
pub record Desks : Type 0 where
  -- The record's room picks the machine, which hears it as a seat of one room;
  pub room_heard : (d : RoomsDesk) (b : List ℕ)
      → ((hear_rooms d b).refusal ≡ (hear_of (desk_in d (room_of b)) b).refusal)
      × (desk_in (hear_rooms d b).desk (room_of b) ≡ (hear_of (desk_in d (room_of b)) b).desk)
  -- the machines of the other rooms stay.
  pub machines_stay : (d : RoomsDesk) (b : List ℕ) (room : ℕ) → (room ≡ room_of b → ⊥)
      → (hear_rooms d b).desk.machine room ≡ d.machine room
  -- Request 3, per room: from a fresh desk and a fresh table, every notice and view that the office sends to the seat
  -- in a room is accepted, whatever the desk hears of the other rooms;
  pub room_accepts : (seat : ℕ) → seat < seat_count → (hs : List Handed) → Every (λ h. OfSeats h.event.what) hs
      → (room : ℕ) → room < room_count → (heard : List (List ℕ))
      → desks.heard_in room heard
      ≡ map (bytes_of room) (sent_to seat (of_room room (table_sent (fresh_table (office_of seat)) hs)))
      → Every (λ n. n ≡ 0) (desks.answers_in room (fresh_rooms seat) heard)
  -- all of them, in the order sent, the rooms interleaved as they come;
  pub rooms_accepted : (seat : ℕ) → seat < seat_count → (hs : List Handed)
      → Every (λ h. OfSeats h.event.what) hs → let sent = table_sent (fresh_table (office_of seat)) hs in
      Every (λ h. h.refusal ≡ 0) (desks.rooms_hearings (fresh_rooms seat) (map room_bytes (sent_to_desk seat sent)))
  -- and all that leave, over restarts of the office.
  pub rooms_accepted_again : (seat : ℕ) → seat < seat_count → (us : List ServerTurn)
      → Every (λ u. OfSeats (served_at u).event.what) us
      → let left = server_left (office_of seat) (fresh_server (office_of seat)) us in
      Every (λ h. h.refusal ≡ 0) (desks.rooms_hearings (fresh_rooms seat) (map room_bytes (sent_to_desk seat left)))
  -- Request 4's sync record counts, per room.
  pub room_syncs : (seat : ℕ) → seat < seat_count → (hs : List Handed) → Every (λ h. OfSeats h.event.what) hs
      → (room : ℕ) → room < room_count → (heard : List (List ℕ)) (before later : List Written) (v : View)
      → sent_to seat (of_room room (table_sent (fresh_table (office_of seat)) hs)) ≡ before ++ (view v ∷ later)
      → desks.heard_in room heard ≡ map (bytes_of room) before → SyncIn room seat heard v

pub record Request9 : Type 0 where
  pub tables : Tables
  pub isolation : Isolation
  pub shared_file : SharedFile
  pub settling_per_room : SettlingPerRoom
  pub desks : Desks
