use mathlib.Core.Bool.{true, false}
use Rattle.restart.proofs.Passing.{after_read, after_refused}
use Rattle.restart.proofs.marks.high_after.Goals as goal

pub returns-in_default : goal.returns-in_default
returns-in_default c = after_refused _ _ c.requires _ c.in_default.ensures.refused

pub returns-then-high-may_follow : goal.returns-then-high-may_follow
returns-then-high-may_follow c =
    let r = c.in-Ok.ensures in
    after_read _ _ c.requires r.refused _ r.read true (rw (← c.may_follow.ensures) c.if-high-may_follow.true)

pub returns-else-high-may_follow : goal.returns-else-high-may_follow
returns-else-high-may_follow c =
    let r = c.in-Ok.ensures in
    after_read _ _ c.requires r.refused c.in-Ok.high r.read false
    (rw (← c.may_follow.ensures) c.if-high-may_follow.false)
