use native.Mathlib.Omega.{arith}
use Rattle.laws.proofs.Loops.{filling_all}
use Rattle.propose.proofs.own_proposals.used_within.Goals as goal

pub returns : goal.returns
returns c =
    let l = c.loop-o in
    filling_all 16 0 _ l.o l.used l.invariant (omega arith)
