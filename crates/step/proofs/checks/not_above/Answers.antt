use Rattle.rules.specs.Refusals.{not_above}
use Rattle.step.proofs.checks.not_above.Goals as goal

pub returns : goal.returns
unfolding not_above
returns c = rw c.accepted.ensures
