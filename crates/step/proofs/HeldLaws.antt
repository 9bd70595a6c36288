-- For held and the crates above: the step on words that are a table, and the table after it.
use mathlib.Core.Path.{◌≡◌, refl, sym, ap, ◌∙◌}
use mathlib.Core.Bool.{true}
use mathlib.Core.Logic.{◌⊎◌, inl, inr}
use mathlib.Core.List.{List}
use Prim.Native.Nat.{ℕ}
use native.Mathlib.Decide.{ℕ_discrete}
use lib.ListN.{length}
use borrow.Author.Tests.{ne_eqb}
use Rattle.laws.specs.Upd.{upd}
use Rattle.laws.proofs.Upd.{upd_same, upd_cases}
use Rattle.records.specs.Layout.{room_of}
use Rattle.rules.specs.State.{State}
use Rattle.rules.specs.Refusals.{event_of, rule_of}
use Rattle.rules.specs.Tables.{Table, TableResult, read_of, step_table}
use Rattle.rule_laws.proofs.Monotone.{event_grows}
use Rattle.rule_laws.proofs.Walk.{arrived_own}
use Rattle.rule_laws.proofs.TableSteps.{TableAccepts, TableRefused, table_cases, table_accepts, table_by_lem}
use Rattle.rule_laws.proofs.TableSteps.{event_read}
use Rattle.rule_laws.proofs.TableSteps.{step_acts, step_unread}
use Rattle.rule_laws.proofs.Shapes.{Shaped, event_shaped, read_sixteen}
use Rattle.row.specs.Row.{words_of}
use Rattle.row.specs.Table.{row_at, with_row, table_of, is_table, SoundTable}
use Rattle.row.proofs.Words.{state_shaped, words_row, state_words}
use Rattle.row.proofs.Tables.{sound_length, sound_is, with_sound, well_row, table_with}
use Rattle.step.specs.Step.{in_words, act_words, step_words, Stepped}
use Rattle.step.specs.Held.{OfOffice, HeldStep}

module _ (office : ℕ) (ws b : List ℕ) (output : ℕ) (sound : SoundTable ws) where
  abbrev t : ℕ → State
  t = table_of ws

  abbrev q : TableResult
  q = step_table office t b output

  -- the words that the step leaves are sound, and hold its table
  pub record Left (ws' : List ℕ) : Type 0 where
    pub still : SoundTable ws'
    pub holds : table_of ws' ≡ q.table

  pub left : Left (in_words ws (room_of b) q).words
  left = go (table_cases office t b output)
    where
      go : TableRefused office t b output ⊎ TableAccepts office t b output → Left (in_words ws (room_of b) q).words
      go (inl r) = rw (ne_eqb q.refusal 0 r.reason) (record {
        still = sound;
        holds = sym (ap (λ (x : TableResult). x.table) r.is);
      })
      go (inr a) =
          let s = (rule_of (t (room_of b)) (event_of b)).state in
          let shaped : Shaped s =
          event_shaped (t (room_of b)) (event_of b) (read_sixteen b) (state_shaped (row_at ws (room_of b))) in
          let row = words_row s shaped in
          let e = table_accepts office t b output a in
          let is : (in_words ws (room_of b) q).words ≡ with_row ws (room_of b) (words_of s) =
          rw (e, upd_same t (room_of b) s) in
          rw is (record {
            still = with_sound ws (words_of s) (room_of b) sound a.accepts.in_room
                (well_row (words_of s) row (rw (state_words s shaped) a.accepts.acts.within));
            holds = table_with ws (words_of s) (room_of b) (sound_length ws sound) a.accepts.in_room row.long
                ∙ ap (upd t (room_of b)) (state_words s shaped)
                ∙ sym (ap (λ (x : TableResult). x.table) e);
          })

-- on words that are a table the step is that on the table
pub on_table : (office : ℕ) (ws b : List ℕ) (output : ℕ) → is_table ws ≡ true
    → step_words office ws b output ≡ in_words ws (room_of b) (step_table office (table_of ws) b output)
unfolding step_words act_words
on_table office ws b output is = go (ℕ_discrete (read_of office b).refusal 0)
  where
    go : Dec ((read_of office b).refusal ≡ 0)
        → step_words office ws b output ≡ in_words ws (room_of b) (step_table office (table_of ws) b output)
    go (yes z) = rw (z, is, event_read office b z, step_acts office (table_of ws) b output z)
    go (no n) = rw (
      ne_eqb (read_of office b).refusal 0 n,
      step_unread office (table_of ws) b output n,
      ne_eqb (read_of office b).refusal 0 n,
    )

-- the rooms stay of their office
pub still_owned : (office : ℕ) (t : Table) (b : List ℕ) (output room : ℕ)
    → ((step_table office t b output).table room).own ≡ (t room).own
still_owned office t b output room =
    table_by_lem office t b output (λ q. (q.table room).own ≡ (t room).own) (λ n d. refl)
    (λ a. upd_cases (λ (j : ℕ) (s : State). s.own ≡ (t j).own) t (room_of b) _ room
    ((event_grows (t (room_of b)) (event_of b)).own ∙ arrived_own (t (room_of b)) (event_of b)) (λ n. refl))

pub held_step : (office : ℕ) (ws b : List ℕ) {o o' ws' : List ℕ} {n w : ℕ} → SoundTable ws → OfOffice office ws
    → Stepped (room_of b) (step_words office ws b (length o)) o n w ws' o'
    → HeldStep office (room_of b) (step_table office (table_of ws) b (length o)) o n w ws' o'
held_step office ws b {o} {o'} {ws'} sound own s =
    let l = left office ws b (length o) sound in
    let m = rw (on_table office ws b (length o) (sound_is ws sound)) at s in
    let t : table_of ws' ≡ (step_table office (table_of ws) b (length o)).table = rw m.same_words l.holds in
    record {
      same_refusal = m.same_refusal;
      same_written = m.same_written;
      sound = rw m.same_words l.still;
      of_office = λ room r. ap (λ (u : Table). (u room).own) t ∙ still_owned office (table_of ws) b (length o) room
          ∙ own room r;
      same_table = t;
      same_out = m.same_out;
    }
