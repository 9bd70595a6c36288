-- One record: the words after it hold the table after it, and what the code wrote is what the rules write.
use mathlib.Core.Path.{◌≡◌, refl, sym, ap, ◌∙◌}
use mathlib.Core.Bool.{Bool, true, false}
use mathlib.Core.List.Memᴰ
use mathlib.Core.List.{List, [], Memᴰ}
use Prim.Native.Nat.{ℕ}
use borrow.Author.Tests.{ne_eqb}
use Rattle.laws.specs.Upd.{upd}
use Rattle.laws.proofs.Fin.{true_false}
use Rattle.laws.proofs.Upd.{upd_same}
use Rattle.records.specs.Layout.{room_of}
use Rattle.records.specs.declared.View.{View}
use Rattle.rules.specs.Rules.{Outcome, view}
use Rattle.rules.specs.Refusals.{read_check, event_of, rule_of}
use Rattle.rules.specs.Tables.{Table, well_table, TableResult, step_table}
use Rattle.rule_laws.proofs.Steps.{read_facts, take_accepts}
use Rattle.rule_laws.proofs.TableSteps.{TableAccepts, table_by_lem}
use Rattle.runs.specs.Office.{Input, answer_to, LogEntry}
use Rattle.runs.proofs.OfficeViews.{view_of_net}
use Rattle.row.specs.Table.{table_of, is_table, SoundTable}
use Rattle.row.proofs.Tables.{sound_is, well_sound}
use Rattle.step.specs.Step.{WordsResult, in_words}
use Rattle.step.proofs.HeldLaws.{left, on_table}
use Rattle.code_runs.specs.Words.{Handed, words_answer}

module _ (office : ℕ) (t : Table) (b : List ℕ) (output : ℕ) where
  -- bytes that fail checks 4, 5 and 20 leave the table and have nothing written
  pub table_skips : (read_check b ≡ 0 → ⊥)
      → ((step_table office t b output).table ≡ t) × ((step_table office t b output).written ≡ [])
  table_skips n =
      table_by_lem office t b output (λ q. (q.table ≡ t) × (q.written ≡ [])) (λ m d. (refl, refl))
      (λ a. absurd (n ((read_facts b).1 (a.accepts.readable, a.accepts.in_room))))

  -- a view that a table writes is of the net view of its room then
  pub table_view : (v : View) → Memᴰ (view v) (step_table office t b output).written
      → v.members ≡ ((step_table office t b output).table (room_of b)).net
  table_view v =
      table_by_lem office t b output (λ q. Memᴰ (view v) q.written → v.members ≡ (q.table (room_of b)).net)
      (λ n d m. absurd (Memᴰ.not-nil m)) accepted
    where
      rule : Outcome
      rule = rule_of (t (room_of b)) (event_of b)

      accepted : TableAccepts office t b output → Memᴰ (view v) rule.written
          → v.members ≡ (upd t (room_of b) rule.state (room_of b)).net
      accepted a m =
          let i : Input = record { office = office; event = event_of b; room = output } in
          let e : LogEntry = record { before = t (room_of b); handed = i } in
          let x = a.accepts in
          let q = take_accepts office (t (room_of b)) (event_of b) output
          (record { known = x.known; form = x.form; well = x.well; fits = x.fits; acts = x.acts }) in
          rw (upd_same t (room_of b) rule.state) (unfold answer_to in rw q at (view_of_net e v (rw q m)))

module _ (ws : List ℕ) (h : Handed) (is : is_table ws ≡ true) where
  abbrev answer : TableResult
  answer = step_table h.office (table_of ws) h.bytes h.output

  pub as_table : words_answer ws h ≡ in_words ws (room_of h.bytes) answer
  as_table = on_table h.office ws h.bytes h.output is

  pub wrote : (words_answer ws h).written ≡ answer.written
  wrote = ap (λ (q : WordsResult). q.written) as_table

  pub held : (is_table (words_answer ws h).words ≡ true) × (table_of (words_answer ws h).words ≡ answer.table)
  held = go (well_table (table_of ws)) refl
    where
      Held : TableResult → Type 0
      Held q = let vs = (in_words ws (room_of h.bytes) q).words in (is_table vs ≡ true) × (table_of vs ≡ q.table)

      go : (t : Bool) → well_table (table_of ws) ≡ t
          → (is_table (words_answer ws h).words ≡ true) × (table_of (words_answer ws h).words ≡ answer.table)
      go true w =
          let l = left h.office ws h.bytes h.output (well_sound ws is w) in
          rw as_table (sound_is _ l.still, l.holds)
      -- a table that fails check 2 has every record refused
      go false w = rw as_table
          (table_by_lem h.office (table_of ws) h.bytes h.output Held (λ n d. rw (ne_eqb n 0 d) (is, refl))
          (λ a. absurd (true_false _ a.well w)))

  -- a view that the code sends is of the net view that the words hold then, in its room
  pub words_view : (v : View) → Memᴰ (view v) (words_answer ws h).written
      → v.members ≡ (table_of (words_answer ws h).words (room_of h.bytes)).net
  words_view v m =
      table_view h.office (table_of ws) h.bytes h.output v (rw wrote at m)
      ∙ sym (ap (λ (t : Table). (t (room_of h.bytes)).net) held.1)

-- check 2 passes on
pub still_sound : (ws : List ℕ) (h : Handed) → SoundTable ws → SoundTable (words_answer ws h).words
still_sound ws h s = rw (as_table ws h (sound_is ws s)) (left h.office ws h.bytes h.output s).still
