-- The change requests that have landed, in the words of document 02.
use Rattle.std.specs.Prelude.{◌≡◌, true, ℕ, ◌+◌, ◌*◌, ◌^◌, ◌≤◌, ◌<◌, length, get_or, ltb}
use mathlib.Core.List.{List, [], ◌∷◌, ◌++◌, map, Memᴰ}
use Rattle.std.specs.Int.Count.{ones, count_trailing_zeros}
use Rattle.laws.specs.Big.{Below}
use Rattle.laws.specs.Checks.{first_of}
use Rattle.laws.specs.Fin.{largest, sum}
use Rattle.laws.specs.Lists.{Every}
use Rattle.laws.specs.Upd.{ifb}
use Rattle.seats.specs.Seats.{seat_count}
use Rattle.seats.specs.Offices.{office_of, serves, offices_of, count_of, lowest_of}
use Rattle.records.specs.Fits.{FitsReport}
use Rattle.records.specs.Numbers.{limit, room_count}
use Rattle.records.specs.Layout.{view_mark, view_length, sync_length, high_length, room_of, check_own}
use Rattle.records.specs.Layout.{decode_view, decode_sync}
use Rattle.records.specs.declared.Report.{Report}
use Rattle.records.specs.declared.Proposal.{Proposal}
use Rattle.records.specs.declared.View.{View}
use Rattle.desk.specs.declared.checks.Desk.{Desk}
use Rattle.desk.specs.Hearing.{fresh_desk, hear_of}
use Rattle.sheet.specs.declared.Along.TheVariants as along
use Rattle.sheet.specs.Sheet.{records_on, counts, ask_checks, first_bad, came_along}
use Rattle.sheet.specs.Answers.{GoodRecord, Tells}
use Rattle.sheet.specs.Days.{computed_answers, stated_answers, computed_refusals, stated_refusals}
use Rattle.sheet.specs.Days.{computed_full, stated_full}
use Rattle.rules.specs.State.{State, zeros, used_for}
use Rattle.rules.specs.Rules.{Written, proposal, view, nothing_written, fresh, restarted, has_recipient, repeats}
use Rattle.rules.specs.Rules.{view_of, report_rule}
use Rattle.rules.specs.MarkFile.{file_limit, all_high, last_in, last_high, good_file}
use Rattle.rules.specs.Refusals.{well_formed, full_room, read_check, a_report, event_of, step_of, all_bytes, accepted}
use Rattle.rules.specs.Refusals.{a_proposal, take_of, restart_of}
use Rattle.rules.specs.Tables.{Table, fresh_table, step_table}
use Rattle.rules.specs.Days.{self_use_computed, self_use_stated}
use Rattle.waiting.specs.declared.Waiting.TheVariants as waits
use Rattle.waiting.specs.Waiting.{waiting_for, waiting_for_of_all}
use Rattle.waiting.specs.Days.{answers_computed, answers_stated}
use Rattle.waiting.proofs.Laws.{Means}
use Rattle.runs.specs.Office.{Input, OfSeats, state_after, log_of, sent_in, Turn, left_over, TurnsAbove, NumbersOnce}
use Rattle.runs.specs.World.{Item, WorldEvent, at_first, run}
use Rattle.runs.specs.Begins.{RestartsAbove, HasSent}
use Rattle.runs.specs.Files.{FileTurn, FileEvent, fresh_kept, kept_after, left_kept, begins_with, turns_of}
use Rattle.desk_runs.specs.Sent.{sent_to, hearings}
use Rattle.desk_runs.specs.Syncs.{SyncFor}
use Rattle.desk_runs.specs.Days.{computed_day, stated_day, seat_refusals, seat_reasons}
use Rattle.settling.specs.Statement.{Settles, SettlesAfterCuts, SettlesWithFiles}
use Rattle.rooms.specs.Roomed.{of_room, room_bytes}
use Rattle.rooms.specs.Server.{fresh_server, server_left}
use Rattle.row.specs.Row.{word}
use Rattle.row.specs.Table.{table_length, row_at, table_of, table_words, SoundTable}
use Rattle.row.proofs.Holds.{Holds}
use Rattle.agree.specs.Starts.{laid_of}
use Rattle.step.specs.Fresh.{fresh_words}
use Rattle.step.specs.Step.{step_words}
use Rattle.code_runs.specs.Words.{Handed, words_sent}
use Rattle.code_runs.specs.Kept.{WordsTurn, bytes_in, bytes_left, read_turn}
use Rattle.restart.specs.Restart.{restart_words}
use Rattle.restart.specs.Caller.{caller_moves, MovesAs}

-- Request 1. Who are we waiting for?
pub record Request1 : Type 0 where
  -- What each answer says of the state: 2, nobody, met, or the lowest office of the net view without its proposal.
  pub means : (s : State) → Means s (waiting_for s)
  -- It stops at the first such office, and its answer equals the one found by going through all sixteen.
  pub same_answer : (s : State) → waiting_for s ≡ waiting_for_of_all s
  -- Along every run from fresh an office never waits for itself,
  pub never_itself : (own : ℕ) (hs : List Input) → waiting_for (state_after (fresh own) hs) ≡ waits.For own → ⊥
  -- and the test is never found met.
  pub never_met : (own : ℕ) (hs : List Input) → waiting_for (state_after (fresh own) hs) ≡ waits.Met → ⊥
  -- After document 01's days it waits for whom it should.
  pub days_answered : answers_computed ≡ answers_stated

-- Request 2. Reports that change nothing.
pub record Request2 : Type 0 where
  -- A report that leaves the net view equal to what it was is accepted and does nothing: 0 bytes, state unchanged;
  pub repeat_step : (s : State) (r : Report) → well_formed s ≡ true → repeats s r ≡ true
      → (office : ℕ) (b : List ℕ) (output : ℕ) → office < 16 → read_check b ≡ 0 → full_room ≤ output
      → event_of b ≡ a_report r → step_of office s b output ≡ accepted (nothing_written s)
  -- every word stays.
  pub repeat_stays : (office : ℕ) (ws b : List ℕ) (output : ℕ) (r : Report) → SoundTable ws
      → ((k : ℕ) → get_or ws k 0 < word) → office < 16 → read_check b ≡ 0 → full_room ≤ output → event_of b ≡ a_report r
      → repeats (table_of ws (room_of b)) r ≡ true
      → step_words office ws b output ≡ record { refusal = 0; written = []; words = ws }
  -- The last report again is such a one.
  pub again : (s : State) (r : Report) → s.net.bits < 2 ^ 64 → FitsReport r
      → repeats (report_rule s r).state r ≡ true

-- Request 3. The desk's own end, in any room.
pub record Request3 : Type 0 where
  -- A fresh seat accepts every notice and view that its fresh office sends it, also when it has left and come back,
  pub desk_accepts : (room : ℕ) → room < room_count → (seat : ℕ) → seat < seat_count
      → (hs : List Input) → Every (λ h. OfSeats h.event) hs
      → let sent = sent_in (log_of (fresh (office_of seat)) hs) in
      Every (λ h. h.refusal ≡ 0) (hearings room (fresh_desk seat) (sent_to seat sent))
  -- and everything that the code of its office sends it, whatever bytes the office is handed.
  pub code_heard : (seat : ℕ) → seat < seat_count → (room : ℕ) → room < room_count → (ws : List ℕ) → SoundTable ws
      → table_of ws room ≡ fresh (office_of seat)
      → (hs : List Handed) → Every (λ (h : Handed). Below 256 h.bytes) hs
      → Every (λ h. h.refusal ≡ 0) (hearings room (fresh_desk seat) (sent_to seat (of_room room (words_sent ws hs))))
  -- A seat that refuses keeps what it knew.
  pub seat_keeps : (d : Desk) (b : List ℕ) → ((hear_of d b).refusal ≡ 0 → ⊥) → (hear_of d b).desk ≡ d
  -- A day of seat 0, which leaves and comes back;
  pub seat_day : computed_day ≡ stated_day
  -- each reason to refuse is met, in the order of the request.
  pub each_reason : seat_refusals ≡ seat_reasons

-- Request 4. Who came along from the old view.
pub record Request4 : Type 0 where
  -- The answer is the lowest member seat whose record is missing, or the set of members whose record names the number.
  pub along_tells : (sheet shown : List ℕ) (previous : ℕ) → check_own view_mark view_length shown ≡ 0
      → room_of shown < room_count → first_of (ask_checks (decode_view shown) previous (length sheet)) ≡ 0
      → first_bad (records_on sheet) ≡ 0
      → Tells (decode_view shown) (map decode_sync (records_on sheet)) previous (came_along sheet shown previous)
  -- If two records of a seat count, the first on the sheet does: behind it any other of that seat may stand.
  pub first_decides : (shown : List ℕ) (previous m : ℕ) (a : List ℕ) → length a ≡ m * sync_length
      → (r p q b c : List ℕ) (n : ℕ) → length b ≡ n * sync_length → GoodRecord r → GoodRecord p → GoodRecord q
      → counts (decode_view shown) (decode_sync r).seat (decode_sync r) ≡ true
      → (decode_sync p).seat ≡ (decode_sync r).seat → (decode_sync q).seat ≡ (decode_sync r).seat
      → came_along (a ++ (r ++ (b ++ (p ++ c)))) shown previous
      ≡ came_along (a ++ (r ++ (b ++ (q ++ c)))) shown previous
  -- Neighbours of different seats may be exchanged.
  pub exchange : (shown : List ℕ) (previous m : ℕ) (a : List ℕ) → length a ≡ m * sync_length
      → (r q b : List ℕ) → GoodRecord r → GoodRecord q → ((decode_sync r).seat ≡ (decode_sync q).seat → ⊥)
      → came_along (a ++ (r ++ (q ++ b))) shown previous ≡ came_along (a ++ (q ++ (r ++ b))) shown previous
  -- The record that a desk makes after the last notice before a view counts for that view,
  pub sync_counts : (room : ℕ) → room < room_count → (seat : ℕ) → seat < seat_count
      → (hs : List Input) → Every (λ h. OfSeats h.event) hs → (heard later : List Written) (v : View)
      → sent_to seat (sent_in (log_of (fresh (office_of seat)) hs)) ≡ heard ++ (view v ∷ later)
      → SyncFor room seat heard v
  -- so no desk whose record is on the sheet is told that its own is missing.
  pub own_there : (seat : ℕ) (shown own : List ℕ) → counts (decode_view shown) seat (decode_sync own) ≡ true
      → (sheet : List ℕ) (a b : List (List ℕ)) → records_on sheet ≡ a ++ (own ∷ b) → (previous : ℕ)
      → came_along sheet shown previous ≡ along.Missing seat → ⊥
  -- The sheets of three desks,
  pub each_answer : computed_answers ≡ stated_answers
  -- each reason to refuse, in the order of the request,
  pub each_refusal : computed_refusals ≡ stated_refusals
  -- and the longest sheet.
  pub full_sheets : computed_full ≡ stated_full

-- Request 5. Largest start number: found in one pass, as a running value.
pub record Request5 : Type 0 where
  -- At each office it is the largest of those copied so far,
  pub largest_so_far : (s : State) (n : ℕ) → (laid_of n s).largest ≡ largest n (λ o. get_or (laid_of n s).starts o 0)
  -- 0 before the first;
  pub laid_none : (s : State) → laid_of 0 s ≡ record { starts = zeros; largest = 0 }
  -- at the end the numbers copied are the view's, and 1 + the largest is its number.
  pub laid_view : (s : State)
      → record { number = 1 + (laid_of 16 s).largest; members = s.net; starts = (laid_of 16 s).starts } ≡ view_of s

-- Request 6. Offices with their count.
pub record Request6 : Type 0 where
  -- The count is that of the set: the sum over the sixteen offices,
  pub count_sum : (x : ℕ) → count_of x ≡ sum 16 (λ o. ifb (serves x o) 1 0)
  -- which are the ones of the office set.
  pub count_ones : (x : ℕ) → ones (offices_of x) ≡ count_of x
  -- Trailing zeros find the lowest office.
  pub trailing_office : (b : ℕ) → count_trailing_zeros 16 b ≡ lowest_of b
  -- A proposal has a recipient where the count is above 1.
  pub recipient_count : (p : Proposal) → p.sender < 16 → serves p.members.bits p.sender ≡ true
      → has_recipient p ≡ ltb 1 (count_of p.members.bits)

-- Request 7. A server that loses its current.
pub record Request7 : Type 0 where
  -- Such marks are at most 2,001, and at most 2,000 while the last is not L.
  pub marks_count : (bs : List (List ℕ)) → all_high 0 bs ≡ true
      → (length bs ≤ 2_001) × ((last_in 0 bs ≡ limit → ⊥) → length bs ≤ 2_000)
  -- From a fresh office and an empty file, cut off after any byte written to it or any record that left: an office
  -- always begins again at or above every number that left, and not above L;
  pub begins_above : (own : ℕ) → own < 16 → (ts : List FileTurn) → let us = turns_of (fresh_kept own) ts in
      (left_kept (fresh_kept own) ts ≡ left_over (fresh own) us) × TurnsAbove (fresh own) [] us
  -- so no number is sent twice as a proposal number, none twice in a start notice, and no view number is at or below
  -- an earlier one;
  pub numbers_once : (own : ℕ) → own < 16 → (ts : List FileTurn) → NumbersOnce (left_kept (fresh_kept own) ts)
  -- its own file is never refused by 18,
  pub own_file : (own : ℕ) → own < 16 → (ts : List FileTurn) → let f = (kept_after (fresh_kept own) ts).file in
      restart_of own f ≡ record { refusal = 0; state = restarted own (last_high f) }
  -- and never passes 20,010 bytes.
  pub own_file_length : (own : ℕ) → own < 16 → (ts : List FileTurn)
      → length (kept_after (fresh_kept own) ts).file ≤ file_limit
  -- A seat that was fresh at first accepts all that leaves for it, over every restart of its office.
  pub desk_accepts_again : (room : ℕ) → room < room_count → (seat : ℕ) → seat < seat_count → (ts : List FileTurn)
      → Every (λ t. OfSeats (begins_with t).event) ts
      → Every (λ h. h.refusal ≡ 0)
      (hearings room (fresh_desk seat) (sent_to seat (left_kept (fresh_kept (office_of seat)) ts)))
  -- It settles, the k files empty at first, with cuts after any byte and any record: by the request's own premise,
  -- and where every last report comes after every cut.
  pub settling_with_files : (A : ℕ) (states : ℕ → State) (links : ℕ → ℕ → List Item) (files : ℕ → List ℕ)
      (fs : List FileEvent) → SettlesWithFiles A states links files fs
  -- The same where an office begins again at any number at or above what left, whatever keeps that number.
  pub settling_above : (A : ℕ) (states : ℕ → State) (links : ℕ → ℕ → List Item) (es : List WorldEvent)
      → RestartsAbove (serves A) (at_first states links) es
      → Settles A states links es × SettlesAfterCuts A states links es
  -- The words of a table made again hold the state in every room;
  pub restart_table : (office : ℕ) (f ws : List ℕ) → length ws ≡ table_length → (room : ℕ) → room < room_count
      → Holds (row_at (restart_words office f ws).words room) (restart_of office f).state
  -- 1 and 18 give back what 1 gives;
  pub restart_refused : (office : ℕ) (f ws : List ℕ) → ((restart_words office f ws).refusal ≡ 0 → ⊥)
      → length ws ≡ table_length → (restart_words office f ws).words ≡ table_words (fresh_table 0)
  -- words of another length stay;
  pub restart_other : (office : ℕ) (f ws : List ℕ) → (length ws ≡ table_length → ⊥)
      → (restart_words office f ws).words ≡ ws
  -- an empty file starts fresh.
  pub restart_empty : (office : ℕ) (ws : List ℕ) → restart_words office [] ws ≡ fresh_words office ws
  -- Who asks before each record of an answer, whatever the step was handed, does just what the theorems speak of: a
  -- cut after any byte or record leaves that file, and those records have left.
  pub caller_leaves : (room : ℕ) (f : List ℕ) → good_file f ≡ true → (out : List ℕ) → high_length ≤ length out
      → (office : ℕ) (t : Table) (b : List ℕ) (output : ℕ) → let ws = (step_table office t b output).written in
      MovesAs room f ws (caller_moves f out (all_bytes room ws))
  -- So of a server on words with its file, handed any bytes, lent any output for marks and cut off after any byte
  -- written or record sent: the bytes that leave are those of records that give out no number twice in a room,
  pub code_numbers_once : (own : ℕ) → own < 16 → (out : List ℕ) → high_length ≤ length out → (ws : List ℕ)
      → SoundTable ws → ((room : ℕ) → room < room_count → table_of ws room ≡ fresh own) → (ts : List WordsTurn)
      → let l = server_left own (fresh_server own) (map read_turn ts) in
      (bytes_left own out (record { words = ws; file = [] }) ts ≡ map room_bytes l)
      × ((room : ℕ) → room < room_count → NumbersOnce (of_room room l))
  -- which a seat that was not restarted accepts.
  pub code_heard_again : (seat : ℕ) → seat < seat_count → (room : ℕ) → room < room_count → (ts : List WordsTurn)
      → Every (λ t. Below 256 (bytes_in t)) ts
      → let l = server_left (office_of seat) (fresh_server (office_of seat)) (map read_turn ts) in
      Every (λ h. h.refusal ≡ 0) (hearings room (fresh_desk seat) (sent_to seat (of_room room l)))

-- Request 8. A proposal that claims to have used itself.
pub record Request8 : Type 0 where
  -- 19 is given only where the used number for the sender is not below the proposal's own number,
  pub only_self_use : (s : State) (p : Proposal) (office output : ℕ)
      → (take_of office s (a_proposal p) output).refusal ≡ 19
      → p.number ≤ used_for p p.sender
  -- and such a proposal is always refused.
  pub self_use_refused : (s : State) (p : Proposal) (office output : ℕ) → p.number ≤ used_for p p.sender
      → (take_of office s (a_proposal p) output).refusal ≡ 0 → ⊥
  -- From a fresh or restarted state, cut off or not, at whatever numbers it begins again: every proposal that leaves
  -- has a used number for its sender below its own number,
  pub never_used : (own : ℕ) → own < 16 → (m : ℕ) (ts : List Turn) (p : Proposal)
      → Memᴰ (proposal p) (left_over (restarted own m) ts) → used_for p p.sender < p.number
  -- so that no state of any office answers 19 to it.
  pub never_19 : (own : ℕ) → own < 16 → (m : ℕ) (ts : List Turn) (p : Proposal)
      → Memᴰ (proposal p) (left_over (restarted own m) ts)
      → (office : ℕ) (s : State) (output : ℕ) → (take_of office s (a_proposal p) output).refusal ≡ 19 → ⊥
  -- In the world of sixteen offices the same of every proposal sent by an office that began fresh or restarted,
  -- whatever the others are and do:
  pub never_used_sent : (own : ℕ) → own < 16 → (m : ℕ) (states : ℕ → State) (links : ℕ → ℕ → List Item)
      → states own ≡ restarted own m → (es : List WorldEvent) (p : Proposal)
      → HasSent (run (at_first states links) es) own p → used_for p p.sender < p.number
  -- no state of any office answers 19 to it.
  pub never_19_sent : (own : ℕ) → own < 16 → (m : ℕ) (states : ℕ → State) (links : ℕ → ℕ → List Item)
      → states own ≡ restarted own m → (es : List WorldEvent) (p : Proposal)
      → HasSent (run (at_first states links) es) own p
      → (office : ℕ) (s : State) (output : ℕ) → (take_of office s (a_proposal p) output).refusal ≡ 19 → ⊥
  -- The same of the code: to no bytes that leave a server on words with its file, handed any bytes and cut off
  -- anywhere, does any table answer 19.
  pub code_never_19 : (own : ℕ) → own < 16 → (out : List ℕ) → high_length ≤ length out → (ws : List ℕ)
      → SoundTable ws → ((room : ℕ) → room < room_count → table_of ws room ≡ fresh own) → (ts : List WordsTurn)
      → Every (λ t. Below 256 (bytes_in t)) ts
      → Every (λ b. (office : ℕ) (t : Table) (output : ℕ) → (step_table office t b output).refusal ≡ 19 → ⊥)
      (bytes_left own out (record { words = ws; file = [] }) ts)
  -- A used number just below, at and above the own number; 9 and 10 before 19, 19 before 11, 12 and 13.
  pub self_uses : self_use_computed ≡ self_use_stated
