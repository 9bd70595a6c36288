use Rattle.events.proofs.ReadLaws.{report_told}
use Rattle.events.proofs.report_in.Goals as goal

pub returns : goal.returns
returns c = report_told _ c.requires _ c.decode-r.ensures
