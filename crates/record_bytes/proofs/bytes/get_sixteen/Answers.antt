use Prim.Native.Nat.{◌+◌, ◌*◌}
use native.Mathlib.Omega.{arith}
use Rattle.laws.specs.Big.{big4}
use Rattle.laws.proofs.Tab.{filled}
use Rattle.record_bytes.proofs.bytes.get_sixteen.Goals as goal

pub returns : goal.returns
returns c =
    filled 16 (λ k. big4 c.args.bytes.now (c.args.at + 4 * k)) 0 c.loop-k.n-items (omega arith)
    (λ k h. c.loop-k.invariant.filled k (omega arith))
