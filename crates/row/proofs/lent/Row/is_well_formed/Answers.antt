use mathlib.Core.Path.{sym}
use Rattle.row.proofs.Stretches.{well-stretch}
use Rattle.row.proofs.lent.Row.is_well_formed.Goals as goal

pub returns : goal.returns
returns c = rw (c.are_within.ensures, c.slots_within.ensures) (sym (well-stretch c.args.self.words.now))
