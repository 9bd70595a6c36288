use Rattle.records.specs.Layout.{room_of}
use Rattle.step.proofs.Exits.{handed_meets}
use Rattle.step.proofs.Unready.{exit_refused_read, turn_meets}
use Rattle.step.proofs.step.Goals as goal

pub returns-in_err-event : goal.returns-in_err-event
returns-in_err-event c =
    let a = c.args in
    let b = a.«record».now in
    handed_meets (room_of b) _ _ a.table.now a.out.now _ c.from_residual.ensures.1
    (exit_refused_read a.office a.table.now b _ c.in_err-event.ensures _)

pub returns : goal.returns
returns c =
    let a = c.args in
    turn_meets a.office a.table.now a.«record».now _ c.in_ok-event.ensures a.out.now _ _ _ _ c.act.ensures
