use mathlib.Core.Path.{refl}
use Rattle.seats.specs.Seats.{without_of}
use Rattle.seats.proofs.SeatSet.without.Goals as goal

pub returns : goal.returns
unfolding without_of
returns c = refl
