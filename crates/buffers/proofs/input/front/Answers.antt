use mathlib.Core.Path.{sym, ap, ◌∙◌}
use native.Mathlib.Nat.{pos_of_ne-zero}
use borrow.Author.Tests.{eqb-true, eqb-false}
use lib.ListN.{length}
use Rattle.text.proofs.LineLaws.{front_by, front_none}
use Rattle.buffers.proofs.input.front.Goals as goal

pub returns-then-is_empty : goal.returns-then-is_empty
returns-then-is_empty c =
    let e = eqb-true _ 0 (sym c.is_empty.ensures ∙ c.if-is_empty.true) in
    sym (front_none _ (sym (ap length c.run_first-first.ensures.is) ∙ e))

pub returns-else-is_empty : goal.returns-else-is_empty
returns-else-is_empty c =
    let f = c.run_first-first.ensures.is in
    let n = eqb-false _ 0 (sym c.is_empty.ensures ∙ c.if-is_empty.false) in
    f ∙ sym (front_by _ (pos_of_ne-zero (λ e. n (ap length f ∙ e))))
