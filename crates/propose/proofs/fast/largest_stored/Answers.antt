use mathlib.Core.Path.{refl, ◌∙◌}
use Rattle.laws.specs.Fin.{largest}
use Rattle.laws.proofs.Loops.{largest_one}
use Rattle.propose.proofs.fast.largest_stored.Goals as goal

pub loop-o-init : goal.loop-o-init
unfolding largest
loop-o-init c = refl

pub loop-o-preserved : goal.loop-o-preserved
loop-o-preserved c =
    let l = c.loop-o in
    c.max-top.ensures ∙ rw (c.counted_at.ensures, l.invariant, largest_one)
