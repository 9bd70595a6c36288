use Rattle.seats.proofs.Gathering.{spread, fold, gathered, gathers}
use Rattle.seats.proofs.offices.gather.Goals as goal

pub returns : goal.returns
unfolding gathered fold spread
returns c = gathers c.args.x
