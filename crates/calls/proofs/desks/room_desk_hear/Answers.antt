use mathlib.Core.Path.{sym, ◌∙◌}
use Rattle.calls.proofs.InDeskWords.{desk_whole, hear_changed, room_in}
use Rattle.calls.proofs.desks.room_desk_hear.Goals as goal

pub put_machine-requires : goal.put_machine-requires
put_machine-requires c =
    let whole = sym c.if-not-is_desk.false ∙ c.is_desk.ensures in
    let heard = rw (c.desk_in.ensures, c.room_of-room.ensures) at c.in-Ok.ensures in
    (desk_whole _ whole, rw c.room_of-room.ensures (room_in _ whole _ _ heard))

pub returns-in-Ok : goal.returns-in-Ok
returns-in-Ok c =
    let whole = sym c.if-not-is_desk.false ∙ c.is_desk.ensures in
    let heard = rw (c.desk_in.ensures, c.room_of-room.ensures) at c.in-Ok.ensures in
    hear_changed _ whole _ _ heard _ (rw c.room_of-room.ensures at c.put_machine.ensures)
