use Rattle.std.proofs.Common.{◌≤◌, length}
use Rattle.buffers.proofs.output.flush.Given as goal

abbrev pub invariant-loop-put : goal.invariant-loop-put
invariant-loop-put g l = length l.rest ≤ length l.part

abbrev pub decreases-loop-put : goal.decreases-loop-put
decreases-loop-put g l = length l.rest
