use Rattle.calls.proofs.Called.{step_fits, call_is}
use Rattle.calls.proofs.office.room_step.Goals as goal

pub step_number-requires : goal.step_number-requires
step_number-requires c = step_fits _ _ _ _ _ _ _ _ c.step.ensures

pub returns : goal.returns
returns c = call_is _ _ _ _ _ _ _ _ c.step.ensures _ c.step_number.ensures
