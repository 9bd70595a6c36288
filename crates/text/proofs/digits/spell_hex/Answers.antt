use mathlib.Core.Path.{refl}
use native.Mathlib.Omega.{arith}
use lib.ListN.{length-set}
use Rattle.text.specs.Digits.{hex_of}
use Rattle.text.proofs.DigitPuts.{hex_more}
use Rattle.text.proofs.digits.spell_hex.Goals as goal

pub loop-i-init : goal.loop-i-init
unfolding hex_of
loop-i-init c = (refl, refl)

pub loop-i-preserved : goal.loop-i-preserved
loop-i-preserved c =
    let l = c.loop-i in
    let a = c.args in (
      simp length-set l.invariant.0,
      rw (c.digits_of.ensures, l.invariant.1) (hex_more a.out.now a.at l.i a.bytes.now (omega arith)),
    )
