use Rattle.row.specs.Row.{NoneAbove}
use Rattle.row.proofs.lent.Row.stored_digits.Given as goal

abbrev pub invariant-loop-o : goal.invariant-loop-o
invariant-loop-o l =
    NoneAbove l.all l.o l.self.words.now
