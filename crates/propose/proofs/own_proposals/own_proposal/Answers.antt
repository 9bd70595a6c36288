use Rattle.rules.specs.Rules.{own_proposal}
use Rattle.propose.proofs.own_proposals.own_proposal.Goals as goal

pub returns : goal.returns
unfolding own_proposal
returns c =
    rw (
      c.from.ensures,
      c.used_within.ensures,
      c.start.ensures,
      c.own.ensures,
      c.net-net.ensures,
    )
