use Rattle.step.proofs.checks.made_within.Goals as goal

pub returns : goal.returns
returns c = rw (c.view_number.ensures, c.number.ensures, c.start.ensures)
