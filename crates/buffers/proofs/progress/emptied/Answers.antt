use native.Mathlib.Omega.{arith}
use Rattle.buffers.proofs.Room.{due_few}
use Rattle.buffers.proofs.ProgressLaws.{emptied_none, emptied_some}
use Rattle.buffers.proofs.progress.emptied.Goals as goal

pub returns-then-has_room : goal.returns-then-has_room
returns-then-has_room g c = emptied_none _ _ _

pub overflow_sub-left : goal.overflow_sub-left
overflow_sub-left g c = due_few c.args.output.now c.requires c.due.ensures c.flush-sent.ensures

pub to_front-requires : goal.to_front-requires
to_front-requires g c =
    let l = c.requires in
    let f = due_few c.args.output.now l c.due.ensures c.flush-sent.ensures in
    omega (arith, f, l)

pub returns : goal.returns
returns g c =
    emptied_some c.args.p.now c.args.output.now c.flush-sent.result c.requires c.has_room.ensures c.if-has_room.false
    (due_few c.args.output.now c.requires c.due.ensures c.flush-sent.ensures)
    c.to_front.ensures
