use mathlib.Core.Path.{sym, ◌∙◌}
use native.Mathlib.Nat.{pos_of_ne-zero}
use borrow.Author.Tests.{eqb-true, eqb-false}
use Rattle.text.proofs.Addeds.{trace_none, trace_some}
use Rattle.text.proofs.Text.trace.Goals as goal

pub returns-then-is_empty : goal.returns-then-is_empty
returns-then-is_empty c = trace_none _ _ (eqb-true _ 0 (sym c.is_empty.ensures ∙ c.if-is_empty.true))

pub returns : goal.returns
returns c =
    trace_some _ (pos_of_ne-zero (eqb-false _ 0 (sym c.is_empty.ensures ∙ c.if-is_empty.false))) c.byte.ensures
    c.hex.ensures
