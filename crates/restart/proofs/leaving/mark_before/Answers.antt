use native.Mathlib.Omega.{arith}
use Rattle.events.proofs.ReadLaws.{handed}
use Rattle.restart.proofs.Exits.{at_untouched, at_marked}
use Rattle.restart.proofs.leaving.mark_before.Goals as goal

pub returns-in_err-found : goal.returns-in_err-found
returns-in_err-found c =
    let a = c.answer_for in
    rw (handed _ _ c.from_residual.ensures.1)
    (c.in_err-found.ensures, at_untouched _ _ _ _ c.in_err-found.ensures (omega arith))

pub returns-then-last-mark : goal.returns-then-last-mark
returns-then-last-mark c =
    let f = c.in_ok-found.ensures in (f, at_marked _ _ _ _ f c.if-last-mark.true _ _ c.write.ensures.placed)

pub returns-else-last-mark : goal.returns-else-last-mark
returns-else-last-mark c =
    let f = c.in_ok-found.ensures in (f, at_untouched _ _ _ _ f c.if-last-mark.false)
