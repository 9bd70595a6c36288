use mathlib.Core.Path.{refl}
use Rattle.row.specs.Row.{low_at}
use Rattle.row.proofs.lent.Row.low_at.Goals as goal

pub returns : goal.returns
unfolding low_at
returns c = refl
