use Rattle.events.proofs.ReadLaws.{proposal_told}
use Rattle.events.proofs.proposal_in.Goals as goal

pub returns : goal.returns
returns c = proposal_told _ c.requires _ c.decode-p.ensures
