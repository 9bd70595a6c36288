use Rattle.row.specs.Moved.{Moved}
use Rattle.agree.specs.Emptied.{emptied}
use Rattle.agree.proofs.round_end.empty_all.Given as goal

abbrev pub invariant-loop-o : goal.invariant-loop-o
invariant-loop-o l =
    Moved (emptied l.o) l.initial.row l.row
