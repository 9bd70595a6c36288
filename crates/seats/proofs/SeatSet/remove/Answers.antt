use native.Mathlib.Omega.{arith}
use borrow.Author.Tests.{ltb-true, ltb-false}
use mathlib.Core.Path.{sym, ◌∙◌}
use Rattle.seats.proofs.Laws.{remove_above}
use Rattle.seats.proofs.SeatBits.{removed}
use Rattle.seats.proofs.SeatSet.remove.Goals as goal

pub overflow_shl-result : goal.overflow_shl-result
overflow_shl-result c =
    omega (
      arith,
      ltb-true c.args.seat 64 (sym c.is_seat.ensures ∙ c.if-is_seat.true),
    )

pub returns-then-is_seat : goal.returns-then-is_seat
returns-then-is_seat c =
    let a = c.args in
    removed a.self.bits a.seat
    (ltb-true _ 64 (sym c.is_seat.ensures ∙ c.if-is_seat.true))

pub returns-else-is_seat : goal.returns-else-is_seat
returns-else-is_seat c =
    let a = c.args in
    sym (remove_above a.self.bits a.seat (ltb-false _ 64 (sym c.is_seat.ensures ∙ c.if-is_seat.false)))
