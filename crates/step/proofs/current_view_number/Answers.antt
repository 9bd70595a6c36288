use Rattle.std.specs.Prelude.{Option, Some, None}
use mathlib.Core.Path.{◌≡◌, refl, sym, ap, ◌∙◌}
use mathlib.Core.Bool.{Bool, true, false, ◌&&◌, not}
use Prim.Native.Nat.{ℕ}
use borrow.Author.Tests.{leb-false}
use Rattle.laws.specs.Upd.{ifb}
use Rattle.records.specs.Numbers.{room_count}
use Rattle.row.specs.Table.{table_of, sound_table}
use Rattle.step.specs.Step.{view_found}
use Rattle.step.proofs.current_view_number.Goals as goal

pub returns-then-room_above : goal.returns-then-room_above
unfolding view_found
returns-then-room_above c = rw (sym c.room_above.ensures ∙ c.if-room_above.true) (none (sound_table c.args.table.now))
  where
    none : (t : Bool)
        → ◌≡◌ {A = Option ℕ} None (ifb (t && not true) (Some (table_of c.args.table.now c.args.room).view.number) None)
    none true = refl
    none false = refl

pub view_number-requires : goal.view_number-requires
view_number-requires c = (
  sym c.is_sound.ensures ∙ c.if-is_sound.true,
  leb-false room_count _ (sym c.room_above.ensures ∙ c.if-room_above.false),
)

pub returns-then-is_sound : goal.returns-then-is_sound
unfolding view_found
returns-then-is_sound c =
    rw (
      sym c.is_sound.ensures ∙ c.if-is_sound.true,
      sym c.room_above.ensures ∙ c.if-room_above.false,
    ) (ap Some c.view_number.ensures)

pub returns : goal.returns
unfolding view_found
returns c = rw (sym c.is_sound.ensures ∙ c.if-is_sound.false)
