use native.Mathlib.Omega.{arith}
use Rattle.seats.proofs.OfficeLaws.{offices_lt}
use Rattle.seats.proofs.OfficeBits.{with_ones}
use Rattle.seats.proofs.offices.touched.Goals as goal

pub overflow_cast-bits : goal.overflow_cast-bits
overflow_cast-bits c = omega (arith, offices_lt c.args.set.bits)

pub returns : goal.returns
returns c = rw c.ones.ensures (with_ones _ _ c.gather-offices.ensures)
