use Rattle.act.proofs.on_report.Outcomes.{net_made}
use Rattle.act.proofs.on_report.net_after.Goals as goal

pub returns : goal.returns
returns c = net_made _ _ _ _ c.union.ensures c.without.ensures
