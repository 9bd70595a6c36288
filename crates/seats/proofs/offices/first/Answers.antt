use borrow.Author.Tests.{ne_eqb}
use Rattle.seats.proofs.OfficeBits.{trailing_fit}
use Rattle.seats.proofs.Counts.{trailing_office}
use Rattle.seats.proofs.offices.first.Goals as goal

pub overflow_cast-result : goal.overflow_cast-result
overflow_cast-result c = trailing_fit _

pub returns-else-bits-eq0 : goal.returns-else-bits-eq0
returns-else-bits-eq0 c = simp (ne_eqb _ _ c.if-bits-eq0.false, trailing_office c.args.bits)
