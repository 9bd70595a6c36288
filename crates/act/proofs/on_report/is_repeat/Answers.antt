use Rattle.act.proofs.on_report.Outcomes.{repeat_made}
use Rattle.act.proofs.on_report.is_repeat.Goals as goal

pub returns : goal.returns
returns c = repeat_made _ _ _ _ _ c.net-old.ensures c.net_after-net.ensures c.eq.ensures
