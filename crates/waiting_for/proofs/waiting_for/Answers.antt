use mathlib.Core.Path.{◌≡◌, sym, ap, ◌∙◌}
use mathlib.Core.Bool.{true, false}
use mathlib.Core.List.{List}
use Prim.Native.Nat.{ℕ}
use borrow.Author.Tests.{leb-false}
use Rattle.records.specs.Numbers.{room_above}
use Rattle.row.specs.Row.{state_of}
use Rattle.row.specs.Table.{sound_table}
use Rattle.row.proofs.Low.{sound_well}
use Rattle.row.proofs.Tables.{sound_rows}
use Rattle.waiting.specs.Waiting.{waiting_for}
use Rattle.waiting_for.proofs.Answers.{unsound, no_room, in_room}
use Rattle.waiting_for.proofs.waiting_for.Goals.{Else-not-sound}
use Rattle.waiting_for.proofs.waiting_for.Goals.{Else-above}
use Rattle.waiting_for.proofs.waiting_for.Goals as goal

-- the words pass check 2
sound : (c : Else-not-sound) → sound_table c.args.table.now ≡ true
sound c = sym c.is_sound-sound.ensures ∙ c.if-not-sound.false

-- and the room is one of them
in_table : (c : Else-above) → room_above c.args.room ≡ false
in_table c = sym c.room_above-above.ensures ∙ c.if-above.false

pub returns-then-not-sound : goal.returns-then-not-sound
returns-then-not-sound c = unsound _ _ (sym c.is_sound-sound.ensures ∙ c.if-not-sound.true)

pub returns-then-above : goal.returns-then-above
returns-then-above c =
    no_room _ _ (sound (goal.at.returns-then-above c).Else-not-sound) (sym c.room_above-above.ensures ∙ c.if-above.true)

pub row_in-requires : goal.row_in-requires
row_in-requires c = (
  sound (goal.at.row_in-requires c).Else-not-sound,
  leb-false _ _ (in_table (goal.at.row_in-requires c).Else-above),
)

pub in_row-requires : goal.in_row-requires
in_row-requires c =
    let room = c.args.room in
    rw c.row_in.ensures
    (sound_well _ (sound_rows _ (sound (goal.at.in_row-requires c).Else-not-sound) room
    (leb-false _ _ (in_table (goal.at.in_row-requires c).Else-above))))

pub returns : goal.returns
returns c =
    c.in_row.ensures
    ∙ ap (λ (l : List ℕ). waiting_for (state_of l)) c.row_in.ensures
    ∙ in_room _ _ (sound (goal.at.returns c).Else-not-sound) (in_table (goal.at.returns c).Else-above)
