use Rattle.calls.proofs.RestartNumbers.{last_mark_0}
use Rattle.calls.proofs.restarts.room_last_mark.Goals as goal

pub returns-in-Some : goal.returns-in-Some
returns-in-Some c = last_mark_0 _ _ _ c.in-Some.ensures c.mark_number.ensures
