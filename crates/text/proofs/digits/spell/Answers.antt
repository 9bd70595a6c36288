use mathlib.Core.Path.{◌≡◌, ◌∙◌}
use Prim.Native.Nat.{suc, ◌-◌}
use native.Mathlib.Omega.{arith}
use lib.ListN.{length-set}
use Rattle.text.specs.Digits.{last_digits}
use Rattle.text.proofs.DigitPuts.{spell_more}
use Rattle.text.proofs.digits.spell.Goals as goal

pub loop-i-preserved : goal.loop-i-preserved
loop-i-preserved c =
    let l = c.loop-i in
    let e : suc (l.i - 1) ≡ l.i = omega arith in (
      simp length-set l.invariant.0,
      spell_more l.out c.args.at (l.i - 1) l.rest ∙ rw e l.invariant.1,
    )

pub returns : goal.returns
unfolding last_digits
returns c =
    let l = c.loop-i in
    let e : l.i ≡ 0 = omega arith in
    rw e at l.invariant.1
