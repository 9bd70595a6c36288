use mathlib.Core.Path.{◌≡◌, sym, ◌∙◌}
use mathlib.Core.Bool.{true}
use native.Mathlib.Omega.{arith}
use Rattle.row.specs.Table.{sound_table}
use Rattle.step.proofs.Readiness.{unready_2, unready_3, unready_0}
use Rattle.step.proofs.checks.unready.Goals.{Else-not-is_sound}
use Rattle.step.proofs.checks.unready.Goals as goal

-- check 2 passed
sound : (c : Else-not-is_sound) → sound_table c.args.table.now ≡ true
sound c = sym c.is_sound.ensures ∙ c.if-not-is_sound.false

pub returns-then-not-is_sound : goal.returns-then-not-is_sound
returns-then-not-is_sound c =
    sym (unready_2 _ _ (sym c.is_sound.ensures ∙ c.if-not-is_sound.true))

pub returns-then-output-lt-ROOM : goal.returns-then-output-lt-ROOM
returns-then-output-lt-ROOM c =
    sym (unready_3 _ _ (sound (goal.at.returns-then-output-lt-ROOM c).Else-not-is_sound) (omega arith))

pub returns : goal.returns
returns c = sym (unready_0 _ _ (sound (goal.at.returns c).Else-not-is_sound) (omega arith))
