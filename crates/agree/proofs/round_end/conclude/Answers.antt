use Rattle.event_parts.proofs.Dones.{moved_then, moved_as}
use Rattle.agree.proofs.Emptying.{concluded_by}
use Rattle.agree.proofs.round_end.conclude.Goals as goal

pub returns : goal.returns
returns c =
    moved_as _ (moved_then (moved_then c.empty_all.ensures c.set_mode.ensures) c.put_view.ensures)
    (concluded_by _ _ c.requires)
