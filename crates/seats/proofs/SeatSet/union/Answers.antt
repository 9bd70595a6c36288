use mathlib.Core.Path.{refl}
use Rattle.seats.specs.Seats.{union_of}
use Rattle.seats.proofs.SeatSet.union.Goals as goal

pub returns : goal.returns
unfolding union_of
returns c = refl
