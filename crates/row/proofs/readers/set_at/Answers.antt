use Rattle.row.specs.Row.{set_at}
use Rattle.row.proofs.readers.set_at.Goals as goal

pub returns : goal.returns
unfolding set_at
returns c = rw c.joined.ensures
