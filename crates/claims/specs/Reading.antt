-- Request 10. Reading apart from acting, in the words of document 02.
use Rattle.std.specs.Prelude.{◌≡◌, Bool, true, List, ℕ, ◌≤◌, ◌<◌, eqb}
use Rattle.laws.specs.Checks.{first_of}
use Rattle.laws.specs.Lists.{Every}
use Rattle.laws.specs.Upd.{ifb}
use Rattle.records.specs.Numbers.{room_count}
use Rattle.records.specs.Layout.{room_of}
use Rattle.rules.specs.State.{State}
use Rattle.rules.specs.Refusals.{full_room, Event, read_number, refused, act_with, take_of}
use Rattle.rules.specs.Tables.{Table, well_table, RoomEvent, refused_table, in_table, act_table, no_event}
use Rattle.rules.specs.Tables.{record_event, read_of, step_table, room_check, take_table}
use Rattle.rules.specs.Turns.{undivided, event_bytes, FitsEvent, read_order, act_order, turn_checks}
use Rattle.rule_laws.proofs.Order.{pairs}
use Rattle.events.specs.Events.{event_held, read_event}

-- One call reads a record for a given office and gives the event.
pub record ReadingCall : Type 0 where
  -- It gives 1 when the office is above 15, then 4, 5, 20, 6 to 10 and 19, in that order;
  pub reads_in_order : (office : ℕ) (b : List ℕ) → (read_of office b).refusal ≡ first_of (read_order office b)
  -- otherwise the event of the record, the room that it names and what it says,
  pub event_read : (office : ℕ) (b : List ℕ) → (read_of office b).refusal ≡ 0
      → (read_of office b).event ≡ record_event b
  -- and with a refusal an empty report of room 0.
  pub read_none : (office : ℕ) (b : List ℕ) → ((read_of office b).refusal ≡ 0 → ⊥) → (read_of office b).event ≡ no_event
  -- The event that the code gives holds just this.
  pub code_event : (office : ℕ) (b : List ℕ) → event_held (read_event office b).event ≡ (read_of office b).event

-- The other acts on an event.
pub record ActingCall : Type 0 where
  -- It gives 2, 3, 20, 6 to 10, 19, 11, 12 and 13, in that order, from 6 on by the own office of the event's room.
  pub acts_in_order : (t : Table) (e : RoomEvent) (output : ℕ)
      → (act_table t e output).refusal ≡ first_of (act_order t e output)
  -- What it refuses, it refuses with the table and the output unchanged;
  pub act_keeps : (t : Table) (e : RoomEvent) (output : ℕ) → ((act_table t e output).refusal ≡ 0 → ⊥)
      → act_table t e output ≡ refused_table (act_table t e output).refusal t
  -- otherwise it does in the event's room what is done to that room's state alone.
  pub act_in_room : (t : Table) (e : RoomEvent) (output : ℕ) → well_table t ≡ true → e.room < room_count
      → act_table t e output ≡ in_table t e.room (act_with (t e.room) e.what output)

-- An event built by hand meets the same checks when it is acted on.
pub record ByHand : Type 0 where
  -- Its bytes, read for an office, give it back, or the number by 1, 20, 6 to 10 and 19 on it;
  pub hand_read : (office : ℕ) (e : RoomEvent) → FitsEvent e.what
      → let n = read_number office (room_check e.room) e.what in
      read_of office (event_bytes e.room e.what) ≡ record { refusal = n; event = ifb (eqb n 0) e no_event }
  -- read and acted on in turn, they have the answer that it has where it meets these, then the acting call;
  pub hand_step : (office : ℕ) (e : RoomEvent) → FitsEvent e.what → (t : Table) (output : ℕ)
      → step_table office t (event_bytes e.room e.what) output ≡ take_table office t e output
  -- and the acting call alone has it too, where 2 and 3 pass and its room is of that office.
  pub hand_acts : (office : ℕ) (t : Table) (e : RoomEvent) (output : ℕ) → office < 16 → well_table t ≡ true
      → full_room ≤ output → (e.room < room_count → (t e.room).own ≡ office)
      → take_table office t e output ≡ act_table t e output

-- Callers and the program use both in turn, so 2 and 3 now come after the reading call's numbers.
pub record InTurn : Type 0 where
  -- A record that its reading refuses is answered by that number, whatever the table and the output;
  pub turn_unread : (office : ℕ) (t : Table) (b : List ℕ) (output : ℕ) → ((read_of office b).refusal ≡ 0 → ⊥)
      → step_table office t b output ≡ refused_table (read_of office b).refusal t
  -- any other is acted on.
  pub turn_acts : (office : ℕ) (t : Table) (b : List ℕ) (output : ℕ) → (read_of office b).refusal ≡ 0
      → step_table office t b output ≡ act_table t (record_event b) output
  -- That is the step of request 9, where 2 and 3 pass and the room's own office is the office given.
  pub turn_undivided : (office : ℕ) (t : Table) (b : List ℕ) (output : ℕ) → office < 16 → well_table t ≡ true
      → full_room ≤ output → (room_of b < room_count → (t (room_of b)).own ≡ office)
      → step_table office t b output ≡ undivided t b output
  -- The order of the numbers: 1, 4, 5, 20, 6 to 10, 19, 2, 3, 6 and 9 for another own office, 11, 12, 13;
  pub turn_order : (office : ℕ) (t : Table) (b : List ℕ) (output : ℕ)
      → (step_table office t b output).refusal ≡ first_of (turn_checks office t b output)
  -- every two of them that can apply at once, computed.
  pub turn_pairs : Every (λ (u : Bool). u ≡ true) pairs
  -- In the worlds of runs and of settling an event meets its reading's numbers first too: with a bad proposal no
  -- output is too short.
  pub unread_first : (office : ℕ) (s : State) (e : Event) (output : ℕ) → (read_number office 0 e ≡ 0 → ⊥)
      → take_of office s e output ≡ refused (read_number office 0 e) s

pub record Request10 : Type 0 where
  pub reading : ReadingCall
  pub acting : ActingCall
  pub by_hand : ByHand
  pub in_turn : InTurn
