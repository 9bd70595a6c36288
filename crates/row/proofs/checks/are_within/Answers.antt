use mathlib.Core.Path.{◌≡◌, refl, sym, ◌∙◌}
use native.Mathlib.Omega.{arith}
use Rattle.laws.specs.Fin.{allb}
use Rattle.laws.proofs.Cuts.{same_count, part_length, get_or_part}
use Rattle.laws.proofs.Loops.{all_one}
use Rattle.row.proofs.checks.are_within.Goals as goal

pub loop-number-init : goal.loop-number-init
unfolding allb
loop-number-init c = refl

pub loop-number-preserved : goal.loop-number-preserved
loop-number-preserved c =
    let a = c.args in
    let l = c.loop-number in
    let long = part_length a.n a.at a.s.now c.requires in
    let test = rw (same_count a.at a.n) at c.loop-number-test.true in
    rw (same_count a.at a.n, get_or_part a.n a.at l.number-index a.s.now 0 (omega arith), l.invariant)
    (sym (all_one l.number-index _))
