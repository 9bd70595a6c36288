use Rattle.laws.proofs.Loops.{any_none, any_one}
use Rattle.records.proofs.numbers.above_limit.Goals as goal

pub loop-n-init : goal.loop-n-init
loop-n-init c = any_none _

pub loop-n-preserved : goal.loop-n-preserved
loop-n-preserved c =
    let l = c.loop-n in
    any_one l.n-index _ l.above l.invariant
