-- For the acting call and the step: their results where a check before 11 does not pass.
use mathlib.Core.Path.{◌≡◌, refl, sym, ap, subst, ◌∙◌}
use mathlib.Core.Bool.{Bool, true, false}
use mathlib.Core.List.{List}
use Prim.Native.Nat.{ℕ, ◌≤◌, ◌<◌}
use native.Mathlib.Omega.{arith}
use native.Mathlib.Decide.{ℕ_discrete, dec_lt}
use lib.ListN.{length}
use borrow.Author.Tests.{ne_eqb, eqb-false, leb-false}
use Rattle.laws.proofs.Checks.{first_none, no_reason}
use Rattle.laws.proofs.Fin.{true_false}
use Rattle.records.specs.declared.refusal.Refusal.{Refusal}
use Rattle.records.specs.Refusals.{number}
use Rattle.records.specs.Numbers.{room_count, room_above}
use Rattle.records.specs.Layout.{room_of}
use Rattle.rules.specs.Refusals.{full_room, form_refusal}
use Rattle.rules.specs.Tables.{well_table, RoomEvent, record_event, read_of}
use Rattle.rule_laws.proofs.Checking.{form_first}
use Rattle.rule_laws.proofs.Tables.{act_2, act_3, act_20, act_in_room}
use Rattle.rule_laws.proofs.Steps.{read_facts}
use Rattle.rule_laws.proofs.TableSteps.{event_read, read_passes}
use Rattle.rule_laws.proofs.Turns.{act_refuses}
use Rattle.events.specs.declared.Event.{Event}
use Rattle.events.specs.Events.{EventRead, event_held, read_event}
use Rattle.events.specs.Reading.{refused_read}
use Rattle.events.proofs.ReadLaws.{reason_some, read_held, read_number_lem}
use Rattle.row.specs.Table.{table_of, is_table, sound_table, SoundTable}
use Rattle.row.proofs.Tables.{well_sound, sound_is, sound_table_lem}
use Rattle.step.specs.Checks.{unready, unfit}
use Rattle.step.proofs.Readiness.{unready_2, unready_3, unready_0, ready_facts}
use Rattle.step.specs.Step.{kept, act_words, step_words, Stepped, ReadyEvent}
use Rattle.step.specs.Held.{OfOffice}

-- words that are no table, or whose states fail check 2, are not sound
not_table : (ws : List ℕ) → is_table ws ≡ false → sound_table ws ≡ false
not_table ws x = go (sound_table ws) refl
  where
    go : (t : Bool) → sound_table ws ≡ t → sound_table ws ≡ false
    go false e = e
    go true e = absurd (true_false _ (sound_is ws e) x)

not_well : (ws : List ℕ) → well_table (table_of ws) ≡ false → sound_table ws ≡ false
not_well ws x = go (sound_table ws) refl
  where
    go : (t : Bool) → sound_table ws ≡ t → sound_table ws ≡ false
    go false e = e
    go true e = absurd (true_false _ (sound_table_lem ws e) x)

module _ (ws : List ℕ) (e : RoomEvent) (output : ℕ) where
  -- 2 and 3
  exit_unready : (unready ws output ≡ 0 → ⊥) → act_words ws e output ≡ kept (unready ws output) ws
  unfolding act_words
  exit_unready h = go (is_table ws) (well_table (table_of ws)) (dec_lt output full_room) refl refl
    where
      go : (r w : Bool) → Dec (output < full_room) → is_table ws ≡ r → well_table (table_of ws) ≡ w
          → act_words ws e output ≡ kept (unready ws output) ws
      go false w l x y = rw (x, unready_2 ws output (not_table ws x))
      go true false l x y = rw (x, act_2 (table_of ws) e output y, unready_2 ws output (not_well ws y))
      go true true (yes l) x y = rw (x, act_3 (table_of ws) e output y l, unready_3 ws output (well_sound ws x y) l)
      go true true (no l) x y = absurd (h (unready_0 ws output (well_sound ws x y) (omega arith)))

  abbrev form : ℕ
  form = form_refusal (table_of ws e.room).own e.what

  -- 20
  exit_20 : unready ws output ≡ 0 → room_above e.room ≡ true → act_words ws e output ≡ kept 20 ws
  unfolding act_words
  exit_20 z a =
      let f = ready_facts ws output z in
      rw (sound_is ws f.0, act_20 (table_of ws) e output (sound_table_lem ws f.0) f.1 a)

  -- 6 to 10 and 19
  exit_form : unready ws output ≡ 0 → room_above e.room ≡ false → (form ≡ 0 → ⊥)
      → act_words ws e output ≡ kept form ws
  unfolding act_words
  exit_form z a n =
      let f = ready_facts ws output z in
      let s = table_of ws e.room in
      let q = act_refuses s e.what form n (form_first s e.what n) in
      rw (
        sound_is ws f.0,
        act_in_room (table_of ws) e output (sound_table_lem ws f.0) f.1 (leb-false room_count e.room a),
        q,
        ne_eqb form 0 n,
      )

  pub exit_unfit : (r : Refusal) → number r ≡ unfit ws e output → act_words ws e output ≡ kept (number r) ws
  exit_unfit n d = rw d (go (ℕ_discrete (unready ws output) 0) (room_above e.room) refl (ℕ_discrete form 0))
    where
      go : Dec (unready ws output ≡ 0) → (a : Bool) → room_above e.room ≡ a → Dec (form ≡ 0)
          → act_words ws e output ≡ kept (unfit ws e output) ws
      go (no u) a r f = unfold unfit in rw (ne_eqb (unready ws output) 0 u) (exit_unready u)
      go (yes z) true r f = unfold unfit in rw (z, r) (exit_20 z r)
      go (yes z) false r (no f) = unfold unfit in rw (z, r, ne_eqb form 0 f) (exit_form z r f)
      go (yes z) false r (yes f) =
          let w : unfit ws e output ≡ 0 = unfold unfit in rw (z, r, f) in absurd (eqb-false _ _ (reason_some n) (d ∙ w))

  pub unfit_ready : unfit ws e output ≡ 0 → ReadyEvent ws e output
  unfolding unfit
  unfit_ready z =
      let c2 = no_reason (unready ws output) _ z in
      let c20 = (first_none (room_above e.room) 19 _).0 c2.1 in
      let f = ready_facts ws output c2.0 in
      record {
        ready = record { sound = f.0; fits = f.1 };
        in_room = leb-false room_count e.room c20.0;
        form = (no_reason form 0 c20.1).0;
      }

-- the step, by what its reading answers
module _ (office : ℕ) (ws b : List ℕ) (output : ℕ) where
  exit_unread : (r : Refusal) → number r ≡ (read_of office b).refusal
      → step_words office ws b output ≡ kept (number r) ws
  unfolding step_words
  exit_unread r e = rw (← e, reason_some r)

  pub exit_acts : (read_of office b).refusal ≡ 0 → step_words office ws b output ≡ act_words ws (record_event b) output
  unfolding step_words
  exit_acts z = rw (z, event_read office b z)

  pub exit_3 : SoundTable ws → output < full_room → (read_of office b).refusal ≡ 0
      → step_words office ws b output ≡ kept 3 ws
  exit_3 sound l z =
      let u = unready_3 ws output sound l in
      exit_acts z ∙ exit_unready ws (record_event b) output (λ d. omega (arith, sym u ∙ d))
      ∙ ap (λ (n : ℕ). kept n ws) u

-- a record that is refused
pub exit_refused_read : (office : ℕ) (ws b : List ℕ) (r : Refusal) → refused_read (number r) ≡ read_event office b
    → (output : ℕ) → step_words office ws b output ≡ kept (number r) ws
exit_refused_read office ws b r is output =
    exit_unread office ws b output r (ap (λ (x : EventRead). x.refusal) is ∙ read_number_lem office b)

-- a record that was read: its event is acted on
module _ (office : ℕ) (ws b : List ℕ) (e : Event) (is : record { refusal = 0; event = e } ≡ read_event office b) where
  pub read_zero : (read_of office b).refusal ≡ 0
  read_zero = sym (ap (λ (x : EventRead). x.refusal) is ∙ read_number_lem office b)

  held : event_held e ≡ record_event b
  held = ap (λ (x : EventRead). event_held x.event) is ∙ read_held office b ∙ event_read office b read_zero

  pub turn_meets : (o ws' o' : List ℕ) (n k : ℕ)
      → Stepped e.room (act_words ws (event_held e) (length o)) o n k ws' o'
      → Stepped (room_of b) (step_words office ws b (length o)) o n k ws' o'
  turn_meets o ws' o' n k s =
      rw (exit_acts office ws b (length o) read_zero)
      (subst (λ (e : RoomEvent). Stepped e.room (act_words ws e (length o)) o n k ws' o') held s)

  -- in a table whose rooms are of the office it passes 6 to 10 and 19 for its room
  pub event_ready : (output : ℕ) → SoundTable ws → OfOffice office ws → full_room ≤ output
      → ReadyEvent ws (event_held e) output
  event_ready output sound own fits =
      let f = (read_passes office b).0 read_zero in
      let l = ((read_facts b).0 f.1).1 in
      subst (λ (e : RoomEvent). ReadyEvent ws e output) (sym held) (record {
        ready = record { sound = sound; fits = fits };
        in_room = l;
        form = rw (own (room_of b) l) f.2;
      })

-- the same of what the reading gives
module _ (office : ℕ) (ws b : List ℕ) (r : EventRead) (is : r ≡ read_event office b) where
  module _ (z : r.refusal ≡ 0) where
    pub read_ready : (output : ℕ) → SoundTable ws → OfOffice office ws → full_room ≤ output
        → ReadyEvent ws (event_held r.event) output
    read_ready =
        event_ready office ws b r.event (ap (λ (n : ℕ). record { refusal = n; event = r.event }) (sym z) ∙ is)
