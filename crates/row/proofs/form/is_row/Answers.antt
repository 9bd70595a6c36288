use mathlib.Core.Path.{sym}
use Rattle.row.proofs.Low.{row_not, row_tests}
use Rattle.row.proofs.form.is_row.Goals as goal

pub returns-then-s-ne-WORDS : goal.returns-then-s-ne-WORDS
returns-then-s-ne-WORDS c = sym (row_not _ c.if-s-ne-WORDS.true)

pub returns : goal.returns
returns c = sym (row_tests _ c.if-s-ne-WORDS.false)
