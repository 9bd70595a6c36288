use Rattle.desk.specs.Rooms.{machine_of}
use Rattle.calls.proofs.InDeskWords.{Machines}
use Rattle.calls.proofs.desks.put_in_every_room.Given as goal

abbrev pub invariant-loop-room : goal.invariant-loop-room
invariant-loop-room l = Machines l.initial.words l.room (λ k. machine_of l.desk) l.words
