use mathlib.Core.Path.{refl, sym, ◌∙◌}
use Rattle.seats.proofs.SeatBits.{trailing_seats, trailing_seat}
use Rattle.seats.proofs.SeatSet.first.Goals as goal

pub overflow_cast-result : goal.overflow_cast-result
overflow_cast-result c = trailing_seats _

pub returns-else-is_empty : goal.returns-else-is_empty
returns-else-is_empty c = rw (trailing_seat c.args.self.bits) (rw (sym c.is_empty.ensures ∙ c.if-is_empty.false) refl)
