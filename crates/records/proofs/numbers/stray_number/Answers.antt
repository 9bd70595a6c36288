use mathlib.Core.Path.{◌∙◌}
use native.Mathlib.Omega.{arith}
use Rattle.seats.proofs.OfficeLoops.{first_some, first_none, seen_start, seen_office, seen_next, next_less}
use Rattle.records.proofs.NumberLaws.{others_start, others_next, others_stray}
use Rattle.records.proofs.numbers.stray_number.Goals as goal

pub loop-o-init : goal.loop-o-init
loop-o-init c =
    let offices = c.touched-offices.result.bits in
    (seen_start (omega arith), c.nonzero-others.ensures ∙ others_start c.args.numbers.now offices)

pub bounds-numbers-o : goal.bounds-numbers-o
bounds-numbers-o c = let f = first_some c.in-Some.ensures in seen_office c.loop-o.invariant.0 f.0 f.1

pub overflow_sub-others : goal.overflow_sub-others
overflow_sub-others c =
    let inv = c.loop-o.invariant in
    let f = first_some c.in-Some.ensures in
    (others_next c.args.numbers.now inv.0 f.0 f.1 inv.1).0

pub overflow_sub-left : goal.overflow_sub-left
overflow_sub-left c = let f = first_some c.in-Some.ensures in let some = f.0 in omega arith

pub loop-o-smaller : goal.loop-o-smaller
loop-o-smaller c = let f = first_some c.in-Some.ensures in next_less c.loop-o.invariant.0 f.0 f.1

pub loop-o-preserved : goal.loop-o-preserved
loop-o-preserved c =
    let inv = c.loop-o.invariant in
    let f = first_some c.in-Some.ensures in (
      seen_next inv.0 f.0 f.1 tt,
      (others_next c.args.numbers.now inv.0 f.0 f.1 inv.1).1,
    )

pub returns : goal.returns
returns c =
    others_stray c.args.numbers.now c.args.members.bits _ _ (first_none c.in_default.ensures)
    (rw c.touched-offices.ensures at c.loop-o.invariant.1)
