use mathlib.Core.Path.{sym}
use Rattle.row.proofs.Low.{digits_low}
use Rattle.row.proofs.lent.Row.is_stored_low.Goals as goal

pub returns-then-stored_digits-le-LOW : goal.returns-then-stored_digits-le-LOW
returns-then-stored_digits-le-LOW c =
    sym (digits_low _ _ c.if-stored_digits-le-LOW.true c.stored_digits.ensures)
