use native.Mathlib.Omega.{arith}
use Rattle.records.specs.Layout.{room_of}
use Rattle.step.proofs.Exits.{refuse_meets, handed_meets}
use Rattle.step.proofs.HeldLaws.{held_step}
use Rattle.step.proofs.Unready.{exit_3, exit_refused_read, read_zero, turn_meets, event_ready}
use Rattle.step.proofs.held.step_held.Goals as goal

pub returns-in_err-event : goal.returns-in_err-event
returns-in_err-event c =
    let a = c.args in
    let b = a.«record».now in
    held_step a.office a.table.now b c.requires.0 c.requires.1
    (handed_meets (room_of b) _ _ a.table.now a.out.now _ c.from_residual.ensures.1
    (exit_refused_read a.office a.table.now b _ c.in_err-event.ensures _))

pub returns-then-out-lt-ROOM : goal.returns-then-out-lt-ROOM
returns-then-out-lt-ROOM c =
    let a = c.args in
    let b = a.«record».now in
    let z = read_zero a.office a.table.now b _ c.in_ok-event.ensures in
    held_step a.office a.table.now b c.requires.0 c.requires.1
    (refuse_meets (room_of b) _ 3 a.table.now a.out.now
    (exit_3 a.office a.table.now b _ c.requires.0 (omega (arith, c.if-out-lt-ROOM.true)) z))

pub act_read-requires : goal.act_read-requires
act_read-requires c =
    let a = c.args in
    event_ready a.office a.table.now a.«record».now _ c.in_ok-event.ensures _ c.requires.0 c.requires.1
    (omega (arith, c.if-out-lt-ROOM.false))

pub returns : goal.returns
returns c =
    let a = c.args in
    held_step a.office a.table.now a.«record».now c.requires.0 c.requires.1
    (turn_meets a.office a.table.now a.«record».now _ c.in_ok-event.ensures a.out.now _ _ _ _ c.act_read.ensures)
