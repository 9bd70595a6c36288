-- The step on a table: in its room a record meets the step of that room, and the other rooms stay.
use mathlib.Core.Path.{◌≡◌, refl, sym, ap, ◌∙◌}
use mathlib.Core.Bool.{Bool, true, false}
use mathlib.Core.List.{List}
use mathlib.Core.Logic.{◌⊎◌, inl, inr, ◌↔◌}
use Prim.Native.Nat.{ℕ, ◌≤◌, ◌<◌}
use native.Mathlib.Omega.{arith}
use native.Mathlib.Decide.{ℕ_discrete}
use lib.Dec.{eqb}
use borrow.Author.Tests.{ne_eqb, le-leb, lt-leb, le-ltb}
use Rattle.laws.proofs.Upd.{upd_self, upd_cases}
use Rattle.laws.proofs.Fin.{if_cases}
use Rattle.records.specs.Numbers.{room_count}
use Rattle.records.specs.Layout.{check_of, room_of}
use Rattle.rules.specs.State.{State}
use Rattle.rules.specs.Refusals.{well_formed, full_room, read_check, read_number, form_refusal, event_of, step_of}
use Rattle.rules.specs.Refusals.{accepted, rule_of, all_bytes, size}
use Rattle.rules.specs.Tables.{Table, well_table, RoomEvent, TableResult, refused_table, in_table, act_table, no_event}
use Rattle.rules.specs.Tables.{record_event, read_of, step_table, room_check, take_table}
use Rattle.rule_laws.proofs.Steps.{Refused, Accepts, read_facts, reading_facts, step_cases, step_accepts}
use Rattle.rule_laws.proofs.Tables.{room_well, well_rooms, act_2, acts_in_room, act_table_answer}
use Rattle.rule_laws.proofs.Reasons.{Answer, read_answer, reading_answer}
use Rattle.rule_laws.proofs.Sizes.{event_size}

-- the reading call: its number, and the event where it passes
module _ (office : ℕ) (b : List ℕ) where
  pub read_refusal : (read_of office b).refusal ≡ read_number office (read_check b) (event_of b)
  unfolding read_of
  read_refusal = refl

  pub event_read : (read_of office b).refusal ≡ 0 → (read_of office b).event ≡ record_event b
  unfolding read_of
  event_read z = rw z

  pub read_none : ((read_of office b).refusal ≡ 0 → ⊥) → (read_of office b).event ≡ no_event
  unfolding read_of
  read_none n = rw (ne_eqb (read_number office (read_check b) (event_of b)) 0 n)

  -- it passes where the office is one of the sixteen and neither 4, 5 and 20 nor 6 to 10 and 19 apply
  pub read_passes : ((read_of office b).refusal ≡ 0)
      ↔ ((office < 16) × (read_check b ≡ 0) × (form_refusal office (event_of b) ≡ 0))
  unfolding read_of
  read_passes = reading_facts office (read_check b) (event_of b)

module _ (office : ℕ) (t : Table) (b : List ℕ) (output : ℕ) where
  -- both in turn: a record that is refused by its reading, and one that is acted on
  pub step_unread : ((read_of office b).refusal ≡ 0 → ⊥)
      → step_table office t b output ≡ refused_table (read_of office b).refusal t
  unfolding step_table
  step_unread n = rw (ne_eqb (read_of office b).refusal 0 n)

  pub step_acts : (read_of office b).refusal ≡ 0 → step_table office t b output ≡ act_table t (record_event b) output
  unfolding step_table
  step_acts z = rw z (ap (λ (e : RoomEvent). act_table t e output) (event_read office b z))

  -- a record of one of the rooms: what comes of it there
  pub step_in_room : well_table t ≡ true → room_of b < room_count
      → step_table office t b output ≡ in_table t (room_of b) (step_of office (t (room_of b)) b output)
  step_in_room w l = go (ℕ_discrete (read_of office b).refusal 0)
    where
      go : Dec ((read_of office b).refusal ≡ 0)
          → step_table office t b output ≡ in_table t (room_of b) (step_of office (t (room_of b)) b output)
      go (yes z) =
          step_acts z ∙ acts_in_room t (record_event b) output w l
          ∙ (unfold step_of in rw (sym (read_refusal office b) ∙ z))
      go (no n) =
          step_unread n ∙ ap (refused_table (read_of office b).refusal) (sym (upd_self t (room_of b)))
          ∙ (unfold step_of in rw (← read_refusal office b, ne_eqb (read_of office b).refusal 0 n))

  -- 2, where the record passes its reading, whatever its room
  pub step_table_2 : (read_of office b).refusal ≡ 0 → well_table t ≡ false
      → step_table office t b output ≡ refused_table 2 t
  step_table_2 z w = step_acts z ∙ act_2 t (record_event b) output w

  -- 20, whatever the table and the output
  pub step_table_20 : office < 16 → check_of b ≡ 0 → room_count ≤ room_of b
      → step_table office t b output ≡ refused_table 20 t
  unfolding step_table read_of read_number read_check
  step_table_20 k c l =
      let a : office ≤ 15 = omega arith in
      rw (le-ltb 15 office a, c, le-leb room_count (room_of b) l)

  -- a record that passes 4, 5 and 20 is the event that it holds, handed to the office
  pub step_table_takes : read_check b ≡ 0 → step_table office t b output ≡ take_table office t (record_event b) output
  step_table_takes e = go (ℕ_discrete (read_of office b).refusal 0)
    where
      found : room_check (room_of b) ≡ 0
      found = rw (lt-leb room_count (room_of b) ((read_facts b).0 e).1)

      number : read_number office (room_check (room_of b)) (event_of b) ≡ (read_of office b).refusal
      number = rw found (sym (read_refusal office b ∙ ap (λ (n : ℕ). read_number office n (event_of b)) e))

      go : Dec ((read_of office b).refusal ≡ 0)
          → step_table office t b output ≡ take_table office t (record_event b) output
      go (yes z) = step_acts z ∙ (unfold take_table in rw (number, z))
      go (no n) = step_unread n ∙ (unfold take_table in rw (number, ne_eqb (read_of office b).refusal 0 n))

  -- what comes of a record: refused, with the table as it was, or accepted in its room
  pub record TableAccepts : Type 0 where
    pub well : well_table t ≡ true
    pub accepts : Accepts office (t (room_of b)) b output

  pub table_accepts : TableAccepts
      → step_table office t b output ≡ in_table t (room_of b) (accepted (rule_of (t (room_of b)) (event_of b)))
  table_accepts h =
      step_in_room h.well h.accepts.in_room
      ∙ ap (in_table t (room_of b)) (step_accepts office (t (room_of b)) b output h.accepts)

  pub record TableRefused : Type 0 where
    pub reason : (step_table office t b output).refusal ≡ 0 → ⊥
    pub is : step_table office t b output ≡ refused_table (step_table office t b output).refusal t

  as_refused : (n : ℕ) → (n ≡ 0 → ⊥) → step_table office t b output ≡ refused_table n t → TableRefused
  as_refused n d e = record { reason = rw e d; is = rw e }

  pub table_cases : TableRefused ⊎ TableAccepts
  table_cases = go (ℕ_discrete (read_of office b).refusal 0) (well_table t) refl
    where
      refused_in : well_table t ≡ true → room_of b < room_count
          → Refused (t (room_of b)) (step_of office (t (room_of b)) b output) → TableRefused
      refused_in w l r =
          let n = (step_of office (t (room_of b)) b output).refusal in
          as_refused n r.reason (step_in_room w l ∙ ap (in_table t (room_of b)) r.is
          ∙ ap (refused_table n) (upd_self t (room_of b)))

      inside : well_table t ≡ true → room_of b < room_count
          → Refused (t (room_of b)) (step_of office (t (room_of b)) b output) ⊎ Accepts office (t (room_of b)) b output
          → TableRefused ⊎ TableAccepts
      inside w l (inl r) = inl (refused_in w l r)
      inside w l (inr a) = inr (record { well = w; accepts = a })

      go : Dec ((read_of office b).refusal ≡ 0) → (u : Bool) → well_table t ≡ u → TableRefused ⊎ TableAccepts
      go (no n) u w = inl (as_refused (read_of office b).refusal n (step_unread n))
      go (yes z) false w = inl (as_refused 2 (omega arith) (step_table_2 z w))
      go (yes z) true w =
          inside w ((read_facts b).0 ((read_passes office b).0 z).1).1 (step_cases office (t (room_of b)) b output)

  -- every answer is 0 or one number of the list
  pub table_answer : Answer (step_table office t b output).refusal
  unfolding step_table
  table_answer = if_cases (λ (q : TableResult). Answer q.refusal) (eqb (read_of office b).refusal 0) _ _
      (λ e. act_table_answer t (read_of office b).event output)
      (λ e. unfold read_of in reading_answer office (read_check b) (event_of b) (read_answer b))

  -- what holds of a refusal, and of what an accepted record does in its room, holds of what comes of a record
  pub table_by_lem : (P : TableResult → Type 0) → ((n : ℕ) → (n ≡ 0 → ⊥) → P (refused_table n t))
      → (TableAccepts → P (in_table t (room_of b) (accepted (rule_of (t (room_of b)) (event_of b)))))
      → P (step_table office t b output)
  table_by_lem P z h = go table_cases
    where
      go : TableRefused ⊎ TableAccepts → P (step_table office t b output)
      go (inl r) = rw r.is (z (step_table office t b output).refusal r.reason)
      go (inr a) = rw (table_accepts a) (h a)

  -- a refusal leaves the table and writes nothing
  pub table_keeps : ((step_table office t b output).refusal ≡ 0 → ⊥)
      → step_table office t b output ≡ refused_table (step_table office t b output).refusal t
  table_keeps =
      table_by_lem (λ q. (q.refusal ≡ 0 → ⊥) → q ≡ refused_table q.refusal t) (λ m d n. refl) (λ a n. absurd (n refl))

  -- no record leaves a table that gets 2
  pub step_table_well : well_table t ≡ true → well_table (step_table office t b output).table ≡ true
  step_table_well w = well_rooms _ (λ room l.
      table_by_lem (λ q. well_formed (q.table room) ≡ true) (λ m d. room_well t w room l)
      (λ a. upd_cases (λ (j : ℕ) (s : State). well_formed s ≡ true) t (room_of b) _ room a.accepts.acts.within
      (λ n. room_well t w room l)))

  -- no record has more written than every event has room in
  pub table_size : size (step_table office t b output).written ≤ full_room
  unfolding all_bytes
  table_size = table_by_lem (λ q. size q.written ≤ full_room) (λ m d. omega arith)
      (λ a. event_size (t (room_of b)) (event_of b))
