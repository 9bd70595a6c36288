-- From any table, and so from a fresh one: the words after a run hold the table after it, and what the code sent is
-- what the rules send. In each room of a table that passes check 2 it is the run of that room's state.
use mathlib.Core.Path.{◌≡◌, refl, ap, ◌∙◌}
use mathlib.Core.Bool.{true}
use mathlib.Core.List.{List, [], ◌∷◌}
use Prim.Native.Nat.{ℕ, ◌<◌}
use native.Mathlib.Decide.{ℕ_discrete}
use borrow.Author.Tests.{ne_eqb}
use Rattle.laws.specs.Lists.{runs}
use Rattle.records.specs.Numbers.{room_count}
use Rattle.rules.specs.Refusals.{read_check}
use Rattle.rules.specs.Tables.{Table, TableResult, step_table}
use Rattle.rule_laws.proofs.TableSteps.{step_table_takes}
use Rattle.runs.specs.Office.{state_after, log_of, sent_in}
use Rattle.rooms.specs.Roomed.{of_room}
use Rattle.rooms.specs.Handing.{answer_table, table_after, table_sent, inputs_in}
use Rattle.rooms.proofs.Isolation.{room_run}
use Rattle.row.specs.Table.{row_at, table_of, is_table, SoundTable}
use Rattle.row.proofs.Low.{sound_row_lem}
use Rattle.row.proofs.Tables.{sound_is, sound_rows, sound_table_lem}
use Rattle.row.proofs.Holds.{Holds}
use Rattle.code_runs.specs.Words.{Handed, words_answer, words_after, words_sent, event_in, events_of}
use Rattle.code_runs.proofs.Answers.{table_skips, wrote, held, still_sound}

-- the table that words hold, when this is a table
abbrev pub HoldsTable : List ℕ → Table → Type 0
HoldsTable ws t = (is_table ws ≡ true) × (table_of ws ≡ t)

module _ (ws : List ℕ) (h : Handed) (is : is_table ws ≡ true) where
  abbrev next : List ℕ
  next = (words_answer ws h).words

  taken : read_check h.bytes ≡ 0
      → step_table h.office (table_of ws) h.bytes h.output ≡ answer_table (table_of ws) (event_in h)
  unfolding answer_table
  taken z = step_table_takes h.office (table_of ws) h.bytes h.output z

  -- one more record in front of a run
  run_then : (hs : List Handed) → HoldsTable (words_after next hs) (table_after (table_of next) (events_of hs))
      → HoldsTable (words_after ws (h ∷ hs)) (table_after (table_of ws) (events_of (h ∷ hs)))
  unfolding words_after runs events_of
  run_then hs rest = go (ℕ_discrete (read_check h.bytes) 0)
    where
      go : Dec (read_check h.bytes ≡ 0)
          → HoldsTable (words_after ws (h ∷ hs)) (table_after (table_of ws) (events_of (h ∷ hs)))
      go (yes z) =
          let same = (held ws h is).1 ∙ ap (λ (q : TableResult). q.table) (taken z) in
          rw z (rw same at rest)
      go (no n) =
          let same = (held ws h is).1 ∙ (table_skips h.office (table_of ws) h.bytes h.output n).0 in
          rw (ne_eqb (read_check h.bytes) 0 n) (rw same at rest)

  sent_then : (hs : List Handed) → words_sent next hs ≡ table_sent (table_of next) (events_of hs)
      → words_sent ws (h ∷ hs) ≡ table_sent (table_of ws) (events_of (h ∷ hs))
  unfolding words_sent table_sent events_of
  sent_then hs rest = go (ℕ_discrete (read_check h.bytes) 0)
    where
      go : Dec (read_check h.bytes ≡ 0) → words_sent ws (h ∷ hs) ≡ table_sent (table_of ws) (events_of (h ∷ hs))
      go (yes z) = rw (z, wrote ws h is, rest, (held ws h is).1, taken z)
      go (no n) =
          let skips = table_skips h.office (table_of ws) h.bytes h.output n in
          rw (ne_eqb (read_check h.bytes) 0 n, wrote ws h is, skips.1, rest, (held ws h is).1, skips.0)

pub words_run : (ws : List ℕ) (hs : List Handed) → is_table ws ≡ true
    → HoldsTable (words_after ws hs) (table_after (table_of ws) (events_of hs))
unfolding words_after runs events_of
words_run ws [] is = (is, refl)
words_run ws (h ∷ hs) is = run_then ws h is hs (words_run (words_answer ws h).words hs (held ws h is).0)

pub words_sent_lem : (ws : List ℕ) (hs : List Handed) → is_table ws ≡ true
    → words_sent ws hs ≡ table_sent (table_of ws) (events_of hs)
unfolding words_sent table_sent events_of
words_sent_lem ws [] is = refl
words_sent_lem ws (h ∷ hs) is = sent_then ws h is hs (words_sent_lem (words_answer ws h).words hs (held ws h is).0)

pub run_sound : (ws : List ℕ) (hs : List Handed) → SoundTable ws → SoundTable (words_after ws hs)
unfolding words_after
run_sound ws [] s = s
run_sound ws (h ∷ hs) s = run_sound (words_answer ws h).words hs (still_sound ws h s)

-- in a room
module _ (ws : List ℕ) (s : SoundTable ws) (hs : List Handed) (room : ℕ) (l : room < room_count) where
  pub in_room_run :
      Holds (row_at (words_after ws hs) room) (state_after (table_of ws room) (inputs_in room (events_of hs)))
  in_room_run =
      let r = words_run ws hs (sound_is ws s) in (
        sound_row_lem _ (sound_rows _ (run_sound ws hs s) room l),
        ap (λ (t : Table). t room) r.1 ∙ (room_run room l (table_of ws) (sound_table_lem ws s) (events_of hs)).after,
      )

  pub in_room_sent : of_room room (words_sent ws hs)
      ≡ sent_in (log_of (table_of ws room) (inputs_in room (events_of hs)))
  in_room_sent =
      ap (of_room room) (words_sent_lem ws hs (sound_is ws s))
      ∙ (room_run room l (table_of ws) (sound_table_lem ws s) (events_of hs)).sent
