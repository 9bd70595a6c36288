use mathlib.Core.Path.{◌∙◌}
use Rattle.records.proofs.CheckLaws.{checked_by_kind, no_kind}
use Rattle.records.proofs.checks.check.Goals as goal

pub returns-in_default : goal.returns-in_default
returns-in_default c = no_kind _ c.in_default.ensures

pub returns : goal.returns
returns c = c.check_length.ensures ∙ checked_by_kind _ _ c.in-Some.ensures _ c.length.ensures
