use mathlib.Core.Path.{refl, ◌∙◌}
use Rattle.rules.specs.Refusals.{a_report}
use Rattle.step.proofs.Refusal.{from_13}
use Rattle.step.proofs.refusals.report.Goals as goal

pub returns : goal.returns
returns c = c.ceiling.ensures ∙ from_13 _ (a_report _) refl _ c.report_within.ensures
