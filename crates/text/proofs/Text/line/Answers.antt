use native.Mathlib.Omega.{arith}
use Rattle.text.proofs.Addeds.{room_left, added_then, line_whole}
use Rattle.text.proofs.Text.line.Goals as goal

pub trace-requires : goal.trace-requires
trace-requires c = room_left _ c.numbers.ensures (omega (arith, c.requires))

pub byte-requires : goal.byte-requires
byte-requires c =
    let r = room_left 1 (added_then c.numbers.ensures c.trace.ensures) (omega (arith, c.requires)) in omega (arith, r)

pub returns : goal.returns
returns c = line_whole _ _ _ _ _ c.numbers.ensures c.trace.ensures c.byte.ensures
