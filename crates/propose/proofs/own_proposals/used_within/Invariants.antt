use Rattle.laws.specs.Upd.{ifb}
use Rattle.seats.specs.Offices.{serves}
use Rattle.rules.specs.State.{used_at}
use Rattle.row.specs.Row.{state_of}
use Rattle.laws.proofs.Loops.{Filling}
use Rattle.propose.proofs.own_proposals.used_within.Given as goal

abbrev pub invariant-loop-o : goal.invariant-loop-o
invariant-loop-o l =
    Filling 16 0 (λ k. ifb (serves l.net.bits k) (used_at (state_of l.row.words.now) k) 0) l.o l.used
