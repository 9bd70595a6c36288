use native.Mathlib.Omega.{arith}
use Rattle.row.specs.Row.{state_of}
use Rattle.event_parts.specs.Bounds.{reach}
use Rattle.event_parts.proofs.Made.{next_is}
use Rattle.event_parts.proofs.Bounding.{next_bound}
use Rattle.propose.proofs.fast.next_number.Goals as goal

pub overflow_add-result : goal.overflow_add-result
overflow_add-result c =
    let s = state_of c.args.row.words.now in
    let h = next_bound reach s c.requires in
    let e = next_is s in
    let n = c.number.ensures in
    let l = c.largest_stored.ensures in
    omega arith

pub returns : goal.returns
returns c = rw (c.max.ensures, c.number.ensures, c.largest_stored.ensures) (next_is _)
