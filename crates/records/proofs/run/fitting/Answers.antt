use borrow.Author.Tests.{le-leb, lt-leb}
use Rattle.records.proofs.run.fitting.Goals as goal

pub returns-then-n-run : goal.returns-then-n-run
returns-then-n-run c = simp (le-leb _ _ c.if-n-run.true)

pub returns-else-n-run : goal.returns-else-n-run
returns-else-n-run c = simp (lt-leb _ _ c.if-n-run.false)
