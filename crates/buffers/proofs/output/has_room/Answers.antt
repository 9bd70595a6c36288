use Rattle.buffers.proofs.Room.{room_waiting, room_line}
use Rattle.buffers.proofs.output.has_room.Goals as goal

pub returns-then-waiting : goal.returns-then-waiting
returns-then-waiting c = room_waiting _ _ c.if-waiting.true

pub returns-else-waiting : goal.returns-else-waiting
returns-else-waiting c = room_line _ _ c.if-waiting.false
