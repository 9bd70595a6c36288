use mathlib.Core.Path.{◌≡◌, sym, ◌∙◌}
use mathlib.Core.Bool.{true}
use Rattle.row.specs.Row.{is_row}
use Rattle.row.proofs.Low.{row_is, sound_words, not_sound}
use Rattle.row.proofs.checks.is_sound.Goals.{Then-is_row}
use Rattle.row.proofs.checks.is_sound.Goals as goal

is : (c : Then-is_row) → is_row c.args.s.now ≡ true
is c = sym c.is_row.ensures ∙ c.if-is_row.true

pub invariant_of-is_well_formed : goal.invariant_of-is_well_formed
invariant_of-is_well_formed c = record { is = row_is _ (is (goal.at.invariant_of-is_well_formed c).Then-is_row) }

pub returns-then-is_row : goal.returns-then-is_row
returns-then-is_row c =
    c.is_well_formed.ensures ∙ sym (sound_words c.args.s.now (is (goal.at.returns-then-is_row c).Then-is_row))

pub returns : goal.returns
returns c = sym (not_sound c.args.s.now (sym c.is_row.ensures ∙ c.if-is_row.false))
