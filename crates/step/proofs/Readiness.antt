-- For checks and the acting call: the checks before 11, by what they ask.
use mathlib.Core.Path.{◌≡◌, refl, sym, ◌∙◌}
use mathlib.Core.Bool.{Bool, true, false, not}
use mathlib.Core.List.{List}
use Prim.Native.Nat.{ℕ, ◌≤◌, ◌<◌}
use native.Mathlib.Omega.{arith}
use native.Mathlib.Decide.{ℕ_discrete}
use lib.Dec.{eqb, ltb}
use borrow.Author.Tests.{ne_eqb, lt-ltb, le-ltb, ltb-true, ltb-false}
use Rattle.laws.specs.Upd.{ifb}
use Rattle.records.specs.declared.refusal.Refusal.{Refusal}
use Rattle.records.specs.Refusals.{number}
use Rattle.records.specs.Numbers.{room_above}
use Rattle.rules.specs.Refusals.{full_room, form_refusal}
use Rattle.rules.specs.Tables.{RoomEvent}
use Rattle.events.proofs.ReadLaws.{reason_some}
use Rattle.row.specs.Table.{sound_table, table_of}
use Rattle.step.specs.Checks.{unready, unfit}

module _ (ws : List ℕ) (output : ℕ) where
  pub unready_2 : sound_table ws ≡ false → unready ws output ≡ 2
  unfolding unready
  unready_2 s = rw s

  module _ (sound : sound_table ws ≡ true) where
    pub unready_3 : output < full_room → unready ws output ≡ 3
    unfolding unready
    unready_3 l = rw (sound, lt-ltb output full_room l)

    pub unready_0 : full_room ≤ output → unready ws output ≡ 0
    unfolding unready
    unready_0 l = rw (sound, le-ltb output full_room l)

  pub ready_facts : unready ws output ≡ 0 → (sound_table ws ≡ true) × (full_room ≤ output)
  ready_facts e = go (sound_table ws) (ltb output full_room) refl refl
    where
      go : (s t : Bool) → sound_table ws ≡ s → ltb output full_room ≡ t → (sound_table ws ≡ true) × (full_room ≤ output)
      go true true x y = let z = sym (unready_3 x (ltb-true output full_room y)) ∙ e in absurd (omega arith)
      go true false x y = (x, ltb-false output full_room y)
      go false t x y = let z = sym (unready_2 x) ∙ e in absurd (omega arith)

-- checks 2, 3, 20, 6 to 10 and 19, as they are found one after another
module _ (ws : List ℕ) (e : RoomEvent) (output : ℕ) where
  pub unfit_unready : (r : Refusal) → number r ≡ unready ws output → number r ≡ unfit ws e output
  unfolding unfit
  unfit_unready r d = rw (← d, reason_some r)

  module _ (ready : unready ws output ≡ 0) where
    pub unfit_20 : room_above e.room ≡ true → 20 ≡ unfit ws e output
    unfolding unfit
    unfit_20 a = rw (ready, a)

    pub unfit_form : room_above e.room ≡ false → (n : ℕ) → n ≡ form_refusal (table_of ws e.room).own e.what
        → n ≡ unfit ws e output
    unfolding unfit
    unfit_form a n d = rw (ready, a, ← d) (go (ℕ_discrete n 0))
      where
        go : Dec (n ≡ 0) → n ≡ ifb (not (eqb n 0)) n 0
        go (yes z) = rw z
        go (no h) = rw (ne_eqb n 0 h)
