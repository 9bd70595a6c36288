use native.Mathlib.Omega.{arith}
use Rattle.text.specs.Lengths.{next_length}
use Rattle.text.proofs.Addeds.{room_left, added_then}
use Rattle.text.proofs.Text.numbers.Goals as goal

pub next-requires : goal.next-requires
next-requires c = room_left next_length c.number.ensures (omega (arith, c.requires))

pub next-requires-2 : goal.next-requires-2
next-requires-2 c =
    room_left next_length (added_then c.number.ensures c.next.ensures) (omega (arith, c.requires))

pub next-requires-3 : goal.next-requires-3
next-requires-3 c =
    room_left next_length (added_then c.number.ensures (added_then c.next.ensures c.next-2.ensures))
    (omega (arith, c.requires))

pub returns : goal.returns
returns c =
    added_then c.number.ensures (added_then c.next.ensures (added_then c.next-2.ensures c.next-3.ensures))
