use mathlib.Core.Path.{sym, ◌∙◌}
use native.Mathlib.Omega.{arith}
use Rattle.row.specs.Row.{state_of, low_at}
use Rattle.seats.proofs.OfficeLoops.{first_some, first_none, seen_start, seen_office, next_less, seen_next, every_end}
use Rattle.seats.proofs.OfficeLoops.{every_stops}
use Rattle.row.proofs.Presence.{presence_lt}
use Rattle.row.proofs.lent.Row.stored_low.Goals as goal

pub low_at-requires : goal.low_at-requires
low_at-requires c =
    let f = first_some c.in-Some.ensures in
    rw c.from.ensures (seen_office c.loop-o.invariant f.0 f.1)

pub returns-then-not-low_at : goal.returns-then-not-low_at
returns-then-not-low_at c =
    let f = first_some c.in-Some.ensures in
    sym (every_stops (low_at _) c.loop-o.invariant f.0 f.1
    (rw c.from.ensures at (sym c.low_at.ensures ∙ c.if-not-low_at.true)))

pub loop-o-preserved : goal.loop-o-preserved
loop-o-preserved c =
    let f = first_some c.in-Some.ensures in
    seen_next c.loop-o.invariant f.0 f.1
    (rw c.from.ensures at (sym c.low_at.ensures ∙ c.if-not-low_at.false))

pub returns : goal.returns
returns c = sym (every_end (low_at _) c.loop-o.invariant (first_none c.in_default.ensures))
