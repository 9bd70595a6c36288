use mathlib.Core.Path.{refl}
use Rattle.seats.proofs.SeatSet.is_empty.Goals as goal

pub returns : goal.returns
returns c = refl
