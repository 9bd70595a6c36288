use mathlib.Core.Path.{sym, ◌∙◌}
use native.Mathlib.Omega.{arith}
use Rattle.records.proofs.Placing.{placed_none}
use Rattle.calls.specs.OfficeCalls.{report_bytes}
use Rattle.calls.proofs.ReportFits.{report_fits}
use Rattle.calls.proofs.office.room_report_write.Goals as goal

pub returns-then-room_above : goal.returns-then-room_above
unfolding report_bytes
returns-then-room_above c = rw (sym c.room_above.ensures ∙ c.if-room_above.true) (placed_none _ 0)

pub overflow_cast-result : goal.overflow_cast-result
overflow_cast-result c = omega (arith, report_fits _ _ _ _ _ _ c.write.ensures.placed)
