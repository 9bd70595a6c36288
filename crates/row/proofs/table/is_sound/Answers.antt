use mathlib.Core.Path.{sym}
use Rattle.row.proofs.Tables.{long_not}
use Rattle.row.proofs.table.is_sound.Goals as goal

pub returns-then-t-ne-WORDS : goal.returns-then-t-ne-WORDS
returns-then-t-ne-WORDS c = sym (long_not _ c.if-t-ne-WORDS.true)
