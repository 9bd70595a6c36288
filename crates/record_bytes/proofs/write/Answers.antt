use native.Mathlib.Omega.{arith}
use Rattle.records.proofs.Placing.{placed_in, placed_out}
use Rattle.record_bytes.proofs.write.Goals as goal

pub returns-then-space-n-clause-placed : goal.returns-then-space-n-clause-placed
returns-then-space-n-clause-placed g c =
    placed_out c.args.out.now c.args.at (g.R.Record.encoded c.args.r) c.size-n.result
    (rw c.size-n.ensures.own c.size-n.ensures.whole) (omega arith)

pub returns-clause-placed : goal.returns-clause-placed
returns-clause-placed g c =
    placed_in c.args.out.now c.args.at (g.R.Record.encoded c.args.r) c.size-n.result
    (rw c.size-n.ensures.own c.size-n.ensures.whole) _
    (omega (arith, g.met.R.Record.some)) c.put.ensures
