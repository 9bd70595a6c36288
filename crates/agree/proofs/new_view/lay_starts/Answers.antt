use native.Mathlib.Omega.{arith}
use mathlib.Core.Path.{sym, ap, ◌∙◌}
use Rattle.laws.specs.Tab.{tab}
use Rattle.agree.specs.declared.new_view.Laid.{Laid}
use Rattle.agree.specs.Starts.{lay_of}
use Rattle.agree.proofs.Laying.{laid_none, laid_one}
use Rattle.agree.proofs.new_view.lay_starts.Goals as goal

pub loop-o-init : goal.loop-o-init
unfolding tab
loop-o-init c = sym (laid_none _)

pub loop-o-preserved : goal.loop-o-preserved
loop-o-preserved c =
    let l = c.loop-o in
    let n = c.start_at in
    c.lay.ensures ∙ ap (λ (a : Laid). lay_of a l.o n.result) l.invariant
    ∙ rw n.ensures (laid_one _ l.o (omega arith))
