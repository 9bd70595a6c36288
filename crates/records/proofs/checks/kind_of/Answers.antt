use mathlib.Core.Path.{refl, sym, ap, ◌∙◌}
use Rattle.records.specs.Layout.{form_of, form_for}
use Rattle.records.proofs.checks.kind_of.Goals as goal

pub returns-in_err-mark_value : goal.returns-in_err-mark_value
unfolding form_of form_for
returns-in_err-mark_value c = rw (c.from_residual.ensures, sym c.in_err-mark_value.ensures) refl

pub returns : goal.returns
unfolding form_of
returns c = c.kind_for.ensures ∙ ap form_for c.in_ok-mark_value.ensures
