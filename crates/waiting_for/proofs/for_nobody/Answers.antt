use Rattle.row.proofs.ModeTests.{reads_none}
use Rattle.waiting_for.proofs.Answers.{nobody_by}
use Rattle.waiting_for.proofs.for_nobody.Goals as goal

pub returns : goal.returns
returns c =
    nobody_by _ _ _ _ _ (reads_none _ c.mode.ensures c.eq-idle.ensures) c.net.ensures c.own.ensures
    c.serves-seated.ensures
