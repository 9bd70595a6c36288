-- Between restarts a room's row, word for word, depends only on that room's records; and so does what is sent there.
use mathlib.Core.Path.{◌≡◌, refl, sym, ap, subst, ◌∙◌}
use mathlib.Core.List.{List, [], ◌∷◌}
use Prim.Native.Nat.{ℕ, ◌<◌}
use native.Mathlib.Decide.{ℕ_discrete}
use borrow.Author.Tests.{eq-eqb, ne_eqb}
use Rattle.laws.specs.Lists.{runs}
use Rattle.records.specs.Numbers.{room_count}
use Rattle.records.specs.Layout.{room_of}
use Rattle.rules.specs.Refusals.{read_check, Result}
use Rattle.rule_laws.proofs.Steps.{read_facts, step_takes}
use Rattle.rule_laws.proofs.TableSteps.{table_by_lem}
use Rattle.runs.specs.Office.{Input, answer_to, log_of, sent_in}
use Rattle.rooms.specs.Roomed.{of_room}
use Rattle.rooms.specs.Handing.{input_of, inputs_in}
use Rattle.row.specs.Row.{state_of}
use Rattle.row.specs.Table.{row_at, table_of, SoundTable}
use Rattle.row.proofs.Tables.{sound_is}
use Rattle.step.specs.Step.{WordsResult, in_row, in_words}
use Rattle.step.proofs.Holds.{rows_stay, row_step}
use Rattle.code_runs.specs.Words.{Handed, words_answer, words_after, words_sent, event_in, events_of}
use Rattle.code_runs.proofs.Answers.{as_table, still_sound}
use Rattle.code_runs.proofs.Runs.{in_room_sent}

-- what is handed to one room does to its row
abbrev row_next : List ℕ → Input → List ℕ
row_next row i = (in_row row (answer_to (state_of row) i)).words

module _ (ws : List ℕ) (s : SoundTable ws) (h : Handed) where
  abbrev next : List ℕ
  next = (words_answer ws h).words

  -- bytes that fail checks 4, 5 and 20 leave every word
  unread_stays : (read_check h.bytes ≡ 0 → ⊥) → next ≡ ws
  unread_stays n =
      ap (λ (q : WordsResult). q.words) (as_table ws h (sound_is ws s))
      ∙ table_by_lem h.office (table_of ws) h.bytes h.output (λ q. (in_words ws (room_of h.bytes) q).words ≡ ws)
      (λ m d. rw (ne_eqb m 0 d))
      (λ a. absurd (n ((read_facts h.bytes).1 (a.accepts.readable, a.accepts.in_room))))

  -- a record of the room, and one of another
  row_here : (room : ℕ) → read_check h.bytes ≡ 0 → room_of h.bytes ≡ room
      → row_at next room ≡ row_next (row_at ws room) (input_of (event_in h))
  unfolding answer_to
  row_here room z q =
      subst (λ (k : ℕ). row_at next k ≡ row_next (row_at ws k) (input_of (event_in h))) q
      ((row_step h.office ws h.bytes h.output s ((read_facts h.bytes).0 z).1).2
      ∙ ap (λ (x : Result). (in_row (row_at ws (room_of h.bytes)) x).words)
      (step_takes h.office (table_of ws (room_of h.bytes)) h.bytes h.output z))

  row_there : (room : ℕ) → (room_of h.bytes ≡ room → ⊥) → row_at next room ≡ row_at ws room
  row_there room n = rows_stay h.office ws h.bytes h.output s room (λ e. n (sym e))

-- the row of a room after a run, by its row before and what the room was handed
rows_run : (room : ℕ) (ws : List ℕ) → SoundTable ws → (hs : List Handed)
    → row_at (words_after ws hs) room ≡ runs row_next (row_at ws room) (inputs_in room (events_of hs))
unfolding words_after runs events_of inputs_in
rows_run room ws s [] = refl
rows_run room ws s (h ∷ hs) =
    go (rows_run room (words_answer ws h).words (still_sound ws h s) hs) (ℕ_discrete (read_check h.bytes) 0)
    (ℕ_discrete (room_of h.bytes) room)
  where
    from : List ℕ → List ℕ
    from row = runs row_next row (inputs_in room (events_of hs))

    Goal : Type 0
    Goal = row_at (words_after (words_answer ws h).words hs) room
        ≡ runs row_next (row_at ws room) (inputs_in room (events_of (h ∷ hs)))

    go : row_at (words_after (words_answer ws h).words hs) room ≡ from (row_at (words_answer ws h).words room)
        → Dec (read_check h.bytes ≡ 0) → Dec (room_of h.bytes ≡ room) → Goal
    go later (no n) d =
        rw (ne_eqb (read_check h.bytes) 0 n)
        (later ∙ ap (λ (v : List ℕ). from (row_at v room)) (unread_stays ws s h n))
    go later (yes z) (yes q) =
        rw (z, eq-eqb (room_of h.bytes) room q) (later ∙ ap from (row_here ws s h room z q))
    go later (yes z) (no n) =
        rw (z, ne_eqb (room_of h.bytes) room n) (later ∙ ap from (row_there ws s h room n))

-- two tables of words that pass check 2 and have one row in common, handed the same in that room and anything in the
-- others, send the same there and leave that row alike
pub alike_runs : (room : ℕ) → room < room_count → (ws vs : List ℕ) → SoundTable ws → SoundTable vs
    → row_at ws room ≡ row_at vs room → (hs is : List Handed)
    → inputs_in room (events_of hs) ≡ inputs_in room (events_of is)
    → (of_room room (words_sent ws hs) ≡ of_room room (words_sent vs is))
    × (row_at (words_after ws hs) room ≡ row_at (words_after vs is) room)
alike_runs room l ws vs s t same hs is e = (
  in_room_sent ws s hs room l
      ∙ ap (λ (r : List ℕ). sent_in (log_of (state_of r) (inputs_in room (events_of hs)))) same
      ∙ ap (λ (i : List Input). sent_in (log_of (table_of vs room) i)) e
      ∙ sym (in_room_sent vs t is room l),
  rows_run room ws s hs
      ∙ ap (λ (r : List ℕ). runs row_next r (inputs_in room (events_of hs))) same
      ∙ ap (runs row_next (row_at vs room)) e
      ∙ sym (rows_run room vs t is),
)
