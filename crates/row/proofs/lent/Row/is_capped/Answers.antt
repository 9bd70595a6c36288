use Rattle.row.specs.Row.{capped_row}
use Rattle.row.proofs.lent.Row.is_capped.Goals as goal

pub returns : goal.returns
unfolding capped_row
returns c = rw c.is_stored_low.ensures
