use mathlib.Core.Path.{◌≡◌, refl, sym, ◌∙◌}
use native.Mathlib.Omega.{arith}
use Rattle.laws.specs.Fin.{allb}
use Rattle.laws.proofs.Loops.{all_one}
use Rattle.row.proofs.lent.Row.slots_within.Goals as goal

pub loop-o-init : goal.loop-o-init
unfolding allb
loop-o-init c = refl

pub loop-o-preserved : goal.loop-o-preserved
loop-o-preserved c =
    let l = c.loop-o in
    rw (c.slot_within-ok.ensures, l.invariant) (sym (all_one l.o _))
