-- Demand 1. The program as a whole takes every record, state and buffer it is handed and comes to an end on each. What
-- it refuses, it refuses under one number of the list in document 01, with the state and the output bytes unchanged.
use Rattle.std.specs.Prelude.{◌≡◌, Bool, true, false, List, [], ◌∷◌, ◌++◌, ◌⊎◌, ◌↔◌, ℕ, ◌≤◌, ◌<◌, length, get_or}
use Rattle.laws.specs.Checks.{first_of}
use Rattle.laws.specs.Lists.{Every}
use Rattle.records.specs.Layout.{report_mark, report_length, proposal_mark, proposal_length, room_of, check_of}
use Rattle.records.specs.Layout.{check_own}
use Rattle.records.specs.Numbers.{limit, room_count}
use Rattle.records.specs.Run.{reading_of, WholeReading}
use Rattle.records.specs.declared.Proposal.{Proposal}
use Rattle.rules.specs.State.{State}
use Rattle.rules.specs.Rules.{fresh}
use Rattle.rules.specs.Refusals.{well_formed, full_room, made_of, Event, event_of, proposal_checks, refusal_of, rule_of}
use Rattle.rules.specs.Refusals.{read_check, refused, step_of, all_bytes, size, accepted}
use Rattle.rules.specs.Tables.{Table, RoomEvent}
use Rattle.rule_laws.proofs.Reasons.{Answer}
use Rattle.rule_laws.proofs.Shapes.{Shaped}
use Rattle.rule_laws.proofs.Steps.{Accepts, Passes, WellFormed}
use Rattle.rooms.specs.Handing.{table_after, table_sent}
use Rattle.row.specs.Row.{Row, word, state_of, words_of}
use Rattle.row.specs.Table.{table_length, table_of, table_words, is_table}
use Rattle.step.specs.Fresh.{fresh_words}
use Rattle.step.specs.Step.{act_words, step_words, Stepped}
use Rattle.step.proofs.Holds.{InFront}
use Rattle.code_runs.specs.Words.{Handed, words_after, words_sent, events_of}
use Rattle.code_runs.proofs.Runs.{HoldsTable}
use Rattle.text.specs.Lines.{text_of}
use Rattle.text.proofs.Example as Example
use Rattle.feed.specs.Made.{TableMade}
use Rattle.feed.specs.Turn.{Stand}
use Rattle.feed.specs.Whole.{Run, Broken, written_by, Answers}

-- a number that the step gives for some office, state, bytes and output
abbrev pub Met : ℕ → Type 0
Met n = (office : ℕ) × (s : State) × (b : List ℕ) × (output : ℕ) × ((step_of office s b output).refusal ≡ n)

-- The rules, in one room: a record of any bytes is read for any office, and acted on in any state with any output.
-- Request 9 below carries them to a table of rooms, request 10 has the reading and the acting apart.
pub record Rules : Type 0 where
  -- What is refused is refused with the state and the output unchanged,
  pub refusal_keeps : (office : ℕ) (s : State) (b : List ℕ) (output : ℕ)
      → ((step_of office s b output).refusal ≡ 0 → ⊥)
      → step_of office s b output ≡ refused (step_of office s b output).refusal s
  -- under one number from 1 to 13, or under 19 or 20; the answer is 0 otherwise;
  pub one_number : (office : ℕ) (s : State) (b : List ℕ) (output : ℕ) → Answer (step_of office s b output).refusal
  -- each of these numbers is met;
  pub each_number : Every Met (1 ∷ 2 ∷ 3 ∷ 4 ∷ 5 ∷ 6 ∷ 7 ∷ 8 ∷ 9 ∷ 10 ∷ 11 ∷ 12 ∷ 13 ∷ 19 ∷ 20 ∷ [])
  -- making a state answers 0 or 1,
  pub made_number : (office : ℕ) → ((made_of office).refusal ≡ 0) ⊎ ((made_of office).refusal ≡ 1)
  -- 1 where the office number is above 15: the fresh state of office 0 comes back with it.
  pub made_above : (office : ℕ) → 15 < office → made_of office ≡ record { refusal = 1; state = fresh 0 }
  -- What is accepted has passed every check,
  pub accepted_passes : (office : ℕ) (s : State) (b : List ℕ) (output : ℕ) → (step_of office s b output).refusal ≡ 0
      → Accepts office s b output
  -- and what passes every check is accepted: its rule is done.
  pub passes_accepted : (office : ℕ) (s : State) (b : List ℕ) (output : ℕ) → Accepts office s b output
      → step_of office s b output ≡ accepted (rule_of s (event_of b))
  -- Check 2 passes where the own office is at most 15 and no number is above L,
  pub state_check : (s : State) → (well_formed s ≡ true) ↔ WellFormed s
  -- 4 and 5 only where the bytes have the mark and the length of a report or of a proposal,
  pub read_checks : (b : List ℕ) → check_of b ≡ 0
      → (check_own report_mark report_length b ≡ 0) ⊎ (check_own proposal_mark proposal_length b ≡ 0)
  -- 20 only where the room is above 7,
  pub room_check : (b : List ℕ) → (read_check b ≡ 0) ↔ ((check_of b ≡ 0) × (room_of b < room_count))
  -- 6 to 12 and 19 where the proposal is what their sentences ask for,
  pub proposal_accepted : (s : State) (p : Proposal) → (first_of (proposal_checks s p) ≡ 0) ↔ Passes s p
  -- and 13 where the event makes no start, proposal or view number above L.
  pub ceiling : (s : State) (e : Event) → well_formed s ≡ true → refusal_of s e ≡ 0 → let t = (rule_of s e).state in
      (well_formed t ≡ true) ↔ ((t.start ≤ limit) × (t.number ≤ limit) × (t.view.number ≤ limit))
  -- No event leaves a state that the next one would refuse,
  pub stays_well : (office : ℕ) (s : State) (b : List ℕ) (output : ℕ) → well_formed s ≡ true
      → well_formed (step_of office s b output).state ≡ true
  -- and none writes more than 185 bytes.
  pub never_more : (office : ℕ) (s : State) (b : List ℕ) (output : ℕ)
      → size (step_of office s b output).written ≤ full_room
  -- Every input of records is read to its end, and its parts are the input.
  pub whole_input : (b : List ℕ) → WholeReading b (reading_of b)

-- The code, on a table of words.
pub record Code : Type 0 where
  -- A row comes back from the state that it holds,
  pub words_state : (ws : List ℕ) → Row ws → ((k : ℕ) → get_or ws k 0 < word) → words_of (state_of ws) ≡ ws
  -- a state from its words,
  pub state_words : (s : State) → Shaped s → state_of (words_of s) ≡ s
  -- and so the states of a table, room by room.
  pub words_of_table : (t : Table) → ((room : ℕ) → room < room_count → Shaped (t room)) → (room : ℕ) → room < room_count
      → table_of (table_words t) room ≡ t room
  -- A table that is made holds in every room the state that is made.
  pub table_made : (office : ℕ) (ws : List ℕ) → length ws ≡ table_length → (room : ℕ) → room < room_count
      → table_of (fresh_words office ws).words room ≡ (made_of office).state
  -- A run of the step is a run of the rules, from any table and so from a fresh one: in what the words hold after it,
  pub table_runs : (ws : List ℕ) (hs : List Handed) → is_table ws ≡ true
      → HoldsTable (words_after ws hs) (table_after (table_of ws) (events_of hs))
  -- and in what was sent, each record with its room.
  pub table_sends : (ws : List ℕ) (hs : List Handed) → is_table ws ≡ true
      → words_sent ws hs ≡ table_sent (table_of ws) (events_of hs)
  -- Words that are no table get 2 and stay, whatever event is acted on.
  pub no_table : (ws : List ℕ) (e : RoomEvent) (output : ℕ) → is_table ws ≡ false
      → act_words ws e output ≡ record { refusal = 2; written = []; words = ws }
  -- Acceptance writes from the output's start; bytes after the count are untouched.
  pub in_front : (office : ℕ) (ws b o o' ws' : List ℕ) (n w : ℕ)
      → Stepped (room_of b) (step_words office ws b (length o)) o n w ws' o'
      → InFront (all_bytes (room_of b) (step_words office ws b (length o)).written) o o'

-- The program, whose run is a run of turns.
pub record Program : Type 0 where
  -- Where it stops, what was written and what is unwritten are the text for the input, whatever of it is unread.
  pub whole_text : {traced : Bool} {office n : ℕ} {ws input output : List ℕ} {b : Stand} → TableMade office true ws
      → Run traced office ws n input output false b → (f : List ℕ) → (b.ended ≡ true → f ≡ [])
      → text_of traced (office ∷ (input ++ f)) ≡ output ++ b.unwritten
  -- Before that it has answered records that came whole: what was written and what is unwritten are the text for
  -- these, and there is no line for the rest.
  pub going_text : {traced : Bool} {office n : ℕ} {ws input output : List ℕ} {b : Stand} → TableMade office true ws
      → Run traced office ws n input output true b → Answers traced office input output b
  -- So it is where a read or a write fails; where a read does, all is written.
  pub fault_text : {traced unread : Bool} {office : ℕ} {ws : List ℕ} {b : Stand} → TableMade office true ws
      → (k : Broken traced office ws unread b)
      → Answers traced office k.input (written_by k) b × (unread ≡ true → b.unwritten ≡ [])
  -- No office byte counts as one above 15.
  pub office_missing : (traced : Bool) (f : List ℕ) → text_of traced [] ≡ text_of traced (16 ∷ f)
  -- For office 0 and the records of A, B, C, D the text is document 01's four lines.
  pub example : Example.computed ≡ Example.stated

pub record Demand1 : Type 0 where
  pub rules : Rules
  pub code : Code
  pub program : Program
