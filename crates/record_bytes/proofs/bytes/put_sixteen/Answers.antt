use mathlib.Core.Path.{refl, ◌∙◌}
use native.Mathlib.Omega.{arith}
use Rattle.laws.specs.Big.{bytes_all}
use Rattle.laws.proofs.Big.{put_turn}
use Rattle.record_bytes.proofs.bytes.put_sixteen.Goals as goal

pub loop-k-init : goal.loop-k-init
unfolding bytes_all
loop-k-init c = refl

pub loop-k-preserved : goal.loop-k-preserved
loop-k-preserved c =
    (rw (c.loop-k.invariant, c.to_be_bytes.ensures) at c.put.ensures)
    ∙ put_turn c.args.out.now c.args.at c.loop-k.k c.args.numbers.now (omega arith)
