use mathlib.Core.Path.{◌∙◌}
use Rattle.came_along.proofs.Passing.{pass_bad, pass_end}
use Rattle.came_along.proofs.checks.Asked.pass.Goals as goal

pub returns-in_err-sync : goal.returns-in_err-sync
returns-in_err-sync c =
    let i = c.loop-bytes.invariant in
    let s = c.in-Some.ensures.steps in
    pass_bad _ _ _ _ _ i.1 _ _ s.1.0 (s.1.1 ∙ i.0) _ c.in_err-sync.ensures.refused _ c.from_residual.ensures.1

pub returns : goal.returns
returns c = let i = c.loop-bytes.invariant in pass_end _ _ _ _ _ i.1 (rw i.0 at c.in-None.ensures.steps.1.0)
