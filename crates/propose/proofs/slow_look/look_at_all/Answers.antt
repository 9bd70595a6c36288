use mathlib.Core.Path.{sym, ◌∙◌}
use Rattle.row.specs.Row.{state_of}
use Rattle.propose.proofs.Looks.{look_none, look_next}
use Rattle.propose.proofs.slow_look.look_at_all.Goals as goal

pub loop-o-init : goal.loop-o-init
loop-o-init c = sym (look_none _)

pub loop-o-preserved : goal.loop-o-preserved
loop-o-preserved c =
    let l = c.loop-o in
    let s = state_of c.args.row.words.now in
    look_next s l.o _ _ _ l.a _ (c.from-own.ensures ∙ c.own.ensures) c.number-number.ensures
    c.net-net.ensures l.invariant c.looked-a.ensures
