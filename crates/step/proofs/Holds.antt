-- For the crates above: what a table holds after the step, and what the output holds.
use Rattle.std.specs.Prelude.{None, Some, unwrap_or}
use mathlib.Core.Path.{◌≡◌, refl, sym, ap, ◌∙◌}
use mathlib.Core.Bool.{Bool, true, false, ◌&&◌, not}
use mathlib.Core.Logic.{◌⊎◌, inl, inr}
use mathlib.Core.List.{List, []}
use Prim.Native.Nat.{ℕ, ◌+◌, ◌≤◌, ◌<◌}
use native.Mathlib.Omega.{arith}
use lib.Dec.{eqb}
use borrow.Author.Tests.{ne_eqb}
use lib.ListN.{length, take, drop, get_or, length-take, get_or-eq_default}
use native.Mathlib.Decide.{ℕ_discrete, dec_lt}
use Rattle.laws.proofs.Big.{sets_front, sets_rest}
use Rattle.laws.specs.Upd.{ifb, upd}
use Rattle.laws.proofs.Upd.{upd_same}
use Rattle.records.specs.Numbers.{room_count, room_above}
use Rattle.records.specs.Layout.{room_of}
use Rattle.records.specs.declared.Report.{Report}
use Rattle.rules.specs.State.{State}
use Rattle.rules.specs.Refusals.{a_report, event_of, rule_of, full_room, read_check, Result, step_of, all_bytes, size}
use Rattle.rules.specs.Rules.{Written, repeats}
use Rattle.rules.specs.Tables.{RoomEvent, read_of, step_table}
use Rattle.rule_laws.proofs.Steps.{Refused, Accepts, read_facts, step_cases, step_accepts}
use Rattle.rule_laws.proofs.Shapes.{Shaped, event_shaped, read_sixteen}
use Rattle.rule_laws.proofs.Repeats.{repeat_step}
use Rattle.rule_laws.proofs.Sizes.{size_bytes, event_size}
use Rattle.rule_laws.proofs.Tables.{room_well}
use Rattle.rule_laws.proofs.TableSteps.{step_in_room, table_by_lem, table_size}
use Rattle.rule_laws.proofs.Exits.{no_bytes}
use Rattle.row.specs.Row.{row_length, state_of, words_of, word}
use Rattle.row.specs.Table.{row_place, row_at, with_row, table_of, is_table, sound_table, SoundTable}
use Rattle.row.proofs.Low.{sound_row_lem}
use Rattle.row.proofs.Words.{words_state, words_row, state_shaped}
use Rattle.row.proofs.Tables.{sound_is, sound_length, sound_rows, sound_table_lem, row_self, row_beside}
use Rattle.row.proofs.Tables.{row_written}
use Rattle.laws.proofs.Cuts.{get_or_part}
use Rattle.step.specs.Step.{view_found, view_number_words}
use Rattle.step.specs.Step.{WordsResult, in_row, in_words, act_words, step_words, Stepped}
use Rattle.step.proofs.HeldLaws.{on_table}

-- the number of the current view, 0 where there is none
pub found_number : (ws : List ℕ) (room : ℕ) → unwrap_or (view_found ws room) 0 ≡ view_number_words ws room
unfolding view_found view_number_words
found_number ws room = go (sound_table ws && not (room_above room))
  where
    go : (t : Bool) → unwrap_or (ifb t (Some (table_of ws room).view.number) None) 0
        ≡ ifb t (table_of ws room).view.number 0
    go true = refl
    go false = refl

-- words that are no table stay
pub no_table_stays : (ws : List ℕ) (e : RoomEvent) (output : ℕ) → is_table ws ≡ false
    → act_words ws e output ≡ record { refusal = 2; written = []; words = ws }
unfolding act_words
no_table_stays ws e output n = rw n

-- the words that the step leaves: the row of the record's room anew, or all as they were
module _ (office : ℕ) (ws b : List ℕ) (output : ℕ) (sound : SoundTable ws) where
  abbrev room : ℕ
  room = room_of b

  abbrev q : WordsResult
  q = step_words office ws b output

  as_table : q ≡ in_words ws room (step_table office (table_of ws) b output)
  as_table = on_table office ws b output (sound_is ws sound)

  -- the other rooms stay word for word
  pub rows_stay : (other : ℕ) → (other ≡ room → ⊥) → row_at q.words other ≡ row_at ws other
  rows_stay other n = rw as_table
      (table_by_lem office (table_of ws) b output (λ x. row_at (in_words ws room x).words other ≡ row_at ws other)
      (λ m d. rw (ne_eqb m 0 d))
      (λ a. let s = (rule_of (table_of ws room) (event_of b)).state in
      rw (upd_same (table_of ws) room s)
      (row_beside ws (words_of s) room (sound_length ws sound) a.accepts.in_room (words_row s (shaped s refl)).long
      other n)))
    where
      shaped : (s : State) → s ≡ (rule_of (table_of ws room) (event_of b)).state → Shaped s
      shaped s e = rw e (event_shaped (table_of ws room) (event_of b) (read_sixteen b) (state_shaped (row_at ws room)))

  -- and its own room is what the step in one room leaves
  pub row_step : room < room_count → (q.refusal ≡ (step_of office (table_of ws room) b output).refusal)
      × (q.written ≡ (step_of office (table_of ws room) b output).written)
      × (row_at q.words room ≡ (in_row (row_at ws room) (step_of office (table_of ws room) b output)).words)
  row_step l = rw (as_table, step_in_room office (table_of ws) b output (sound_table_lem ws sound) l)
      (refl, refl, go (step_cases office (table_of ws room) b output))
    where
      x : Result
      x = step_of office (table_of ws room) b output

      Row : Result → Type 0
      Row x = row_at (ifb (eqb x.refusal 0) (with_row ws room (words_of (upd (table_of ws) room x.state room))) ws) room
          ≡ ifb (eqb x.refusal 0) (words_of x.state) (row_at ws room)

      go : Refused (table_of ws room) x ⊎ Accepts office (table_of ws room) b output → Row x
      go (inl r) = rw (ne_eqb x.refusal 0 r.reason)
      go (inr a) =
          let s = (rule_of (table_of ws room) (event_of b)).state in
          let shaped = event_shaped (table_of ws room) (event_of b) (read_sixteen b) (state_shaped (row_at ws room)) in
          rw (step_accepts office (table_of ws room) b output a, upd_same (table_of ws) room s)
          (row_written ws (words_of s) room (sound_length ws sound) l (words_row s shaped).long)

-- two tables of words that pass check 2 and have one row in common answer that room's records alike, whatever stands
-- in the other rows, and leave that row alike
pub alike : (office : ℕ) (ws vs b : List ℕ) (output : ℕ) → SoundTable ws → SoundTable vs → room_of b < room_count
    → row_at ws (room_of b) ≡ row_at vs (room_of b)
    → ((step_words office ws b output).refusal ≡ (step_words office vs b output).refusal)
    × ((step_words office ws b output).written ≡ (step_words office vs b output).written)
    × (row_at (step_words office ws b output).words (room_of b)
    ≡ row_at (step_words office vs b output).words (room_of b))
alike office ws vs b output s t l e =
    let a = row_step office ws b output s l in
    let c = row_step office vs b output t l in
    let same = ap (λ (r : List ℕ). step_of office (state_of r) b output) e in (
      a.0 ∙ ap (λ (x : Result). x.refusal) same ∙ sym c.0,
      a.1 ∙ ap (λ (x : Result). x.written) same ∙ sym c.1,
      a.2 ∙ ap (λ (r : List ℕ). (in_row r (step_of office (state_of r) b output)).words) e ∙ sym c.2,
    )

-- a repeat leaves every word and writes nothing
pub repeat_stays : (office : ℕ) (ws b : List ℕ) (output : ℕ) (r : Report) → SoundTable ws
    → ((k : ℕ) → get_or ws k 0 < word) → office < 16 → read_check b ≡ 0 → full_room ≤ output → event_of b ≡ a_report r
    → repeats (table_of ws (room_of b)) r ≡ true
    → step_words office ws b output ≡ record { refusal = 0; written = []; words = ws }
repeat_stays office ws b output r sound below known read fits is e =
    let room = room_of b in
    let l = ((read_facts b).0 read).1 in
    let long = sound_length ws sound in
    let row = sound_row_lem (row_at ws room) (sound_rows ws sound room l) in
    let well = room_well (table_of ws) (sound_table_lem ws sound) room l in
    let words : words_of (state_of (row_at ws room)) ≡ row_at ws room =
    words_state (row_at ws room) row (below_row room) in
    rw (
      on_table office ws b output (sound_is ws sound),
      step_in_room office (table_of ws) b output (sound_table_lem ws sound) l,
      repeat_step (table_of ws room) r well e office b output known read fits is,
      upd_same (table_of ws) room (table_of ws room),
      words,
      row_self ws room long l,
    )
  where
    below_row : (room k : ℕ) → get_or (row_at ws room) k 0 < word
    below_row room k = go (dec_lt k row_length)
      where
        go : Dec (k < row_length) → get_or (row_at ws room) k 0 < word
        go (yes l) = rw (get_or_part row_length (row_place room) k ws 0 l) (below (row_place room + k))
        go (no n) =
            let t = length-take row_length (drop (row_place room) ws) in
            let past : length (row_at ws room) ≤ k = omega arith in
            rw (get_or-eq_default (row_at ws room) 0 {n = k} past) (omega arith)

-- the bytes written stand in front, and those after them are untouched
pub record InFront (bytes o o' : List ℕ) : Type 0 where
  pub written : take (length bytes) o' ≡ bytes
  pub untouched : drop (length bytes) o' ≡ drop (length bytes) o

-- what is written is nothing, or what the table writes
words_by : (office : ℕ) (ws b : List ℕ) (output : ℕ) (P : List Written → Type 0) → P []
    → P (step_table office (table_of ws) b output).written → P (step_words office ws b output).written
words_by office ws b output P z h = go (is_table ws) refl (ℕ_discrete (read_of office b).refusal 0)
  where
    go : (u : Bool) → is_table ws ≡ u → Dec ((read_of office b).refusal ≡ 0) → P (step_words office ws b output).written
    go true u d = rw (on_table office ws b output u) h
    go false u (no n) = unfold step_words in rw (ne_eqb (read_of office b).refusal 0 n) z
    go false u (yes r) = unfold step_words act_words in rw (r, u) z

-- it has room
words_enough : (office : ℕ) (ws b : List ℕ) (output : ℕ) → size (step_words office ws b output).written ≤ output
unfolding all_bytes
words_enough office ws b output =
    words_by office ws b output (λ l. size l ≤ output) (omega arith)
    (table_by_lem office (table_of ws) b output (λ q. size q.written ≤ output) (λ n d. omega arith)
    (λ a. let l = event_size (table_of ws (room_of b)) (event_of b) in omega (arith, a.accepts.fits)))

-- and is never more than every event has room in
pub words_size : (office : ℕ) (ws b : List ℕ) (output : ℕ) → size (step_words office ws b output).written ≤ full_room
words_size office ws b output =
    words_by office ws b output (λ l. size l ≤ full_room) (rw (no_bytes 0) (omega arith))
    (table_size office (table_of ws) b output)

pub stepped_front : (office : ℕ) (ws b o o' ws' : List ℕ) (n w : ℕ)
    → Stepped (room_of b) (step_words office ws b (length o)) o n w ws' o'
    → InFront (all_bytes (room_of b) (step_words office ws b (length o)).written) o o'
stepped_front office ws b o o' ws' n w h =
    let bytes = all_bytes (room_of b) (step_words office ws b (length o)).written in
    let s = size_bytes (room_of b) (step_words office ws b (length o)).written in
    let e = words_enough office ws b (length o) in
    let l : length bytes ≤ length o = omega arith in
    record { written = rw h.same_out (sets_front o bytes l); untouched = rw h.same_out (sets_rest o bytes l) }
