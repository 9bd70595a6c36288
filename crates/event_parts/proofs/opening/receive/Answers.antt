use Rattle.event_parts.proofs.Dones.{moved_then, moved_as}
use Rattle.rules.specs.Rules.{received}
use Rattle.event_parts.proofs.opening.receive.Goals as goal

pub returns : goal.returns
unfolding received
returns c = moved_as _ (moved_then c.put_stored.ensures c.set_accepted.ensures) (rw c.from-o.ensures)
