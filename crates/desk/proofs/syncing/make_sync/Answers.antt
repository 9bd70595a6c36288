use Rattle.records.proofs.Placing.{placed_none}
use Rattle.desk.proofs.SyncLaws.{no_sync}
use Rattle.desk.proofs.syncing.make_sync.Goals as goal

pub returns-in_default : goal.returns-in_default
returns-in_default c = rw (no_sync c.args.desk c.in_default.ensures.refused.1) (placed_none _ 0)
