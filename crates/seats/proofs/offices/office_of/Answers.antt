use mathlib.Core.Path.{refl}
use Rattle.seats.specs.Offices.{office_of}
use Rattle.seats.proofs.offices.office_of.Goals as goal

pub returns : goal.returns
unfolding office_of
returns c = refl
