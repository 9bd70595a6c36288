use mathlib.Core.Path.{◌≡◌, ◌∙◌}
use native.Mathlib.Omega.{arith}
use lib.ListN.{length-set}
use Rattle.records.specs.Numbers.{room_count}
use Rattle.desk.specs.Rooms.{in_every_room}
use Rattle.calls.proofs.InDeskWords.{no_machines, machines_then, all_written}
use Rattle.calls.proofs.desks.put_in_every_room.Goals as goal

pub loop-room-init : goal.loop-room-init
loop-room-init c = no_machines _ _ (length-set c.args.words.now 0 c.args.desk.seat ∙ c.requires)

pub loop-room-preserved : goal.loop-room-preserved
loop-room-preserved c = machines_then c.loop-room.invariant c.put_machine.ensures

pub returns : goal.returns
returns c =
    let l = c.loop-room in
    let t = c.loop-room-test in
    let z : l.room ≡ room_count = omega (arith, l.auto.room-end) in
    all_written c.args.words.now (in_every_room c.args.desk) c.requires (rw z at l.invariant)
