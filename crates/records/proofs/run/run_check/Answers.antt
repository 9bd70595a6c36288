use mathlib.Core.Path.{refl, sym, ◌∙◌}
use borrow.Author.Tests.{eqb-false}
use Rattle.records.specs.Run.{run_check}
use Rattle.records.proofs.RunLaws.{ends_kind, ends_other}
use Rattle.records.proofs.run.run_check.Goals as goal

pub returns-then-is_empty : goal.returns-then-is_empty
unfolding run_check
returns-then-is_empty c = rw (sym c.is_empty.ensures ∙ c.if-is_empty.true) refl

pub returns-in_default : goal.returns-in_default
returns-in_default c =
    ends_other _ (eqb-false _ 0 (sym c.is_empty.ensures ∙ c.if-is_empty.false)) c.in_default.ensures

pub returns : goal.returns
returns c =
    c.too_few.ensures
    ∙ ends_kind _ (eqb-false _ 0 (sym c.is_empty.ensures ∙ c.if-is_empty.false)) _ c.in-Some.ensures _ c.length.ensures
