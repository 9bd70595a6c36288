use Rattle.calls.proofs.AlongWords.{along_refused, along_missing}
use Rattle.calls.proofs.along.room_came_along.Goals as goal

pub returns-in-Refused : goal.returns-in-Refused
returns-in-Refused c = along_refused _ _ _ _ c.in-Refused.ensures c.call_number.ensures

pub returns-in-Missing : goal.returns-in-Missing
returns-in-Missing c =
    along_missing _ _ _ _ c.in-Missing.ensures (rw c.from.ensures at c.call_number-in-Missing.ensures)
