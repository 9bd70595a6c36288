use mathlib.Core.Path.{refl}
use borrow.Author.Rules.{rules}
use Rattle.seats.proofs.OfficeBits.{ones_fit}
use Rattle.seats.proofs.offices.ones.Goals as goal

pub overflow_cast-result : goal.overflow_cast-result
overflow_cast-result c = search (rules, ones_fit)

pub returns : goal.returns
returns c = refl
