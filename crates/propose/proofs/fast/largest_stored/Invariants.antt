use mathlib.Core.Path.{◌≡◌}
use Rattle.laws.specs.Fin.{largest}
use Rattle.row.specs.Row.{state_of}
use Rattle.event_parts.specs.Parts.{counted_at}
use Rattle.propose.proofs.fast.largest_stored.Given as goal

abbrev pub invariant-loop-o : goal.invariant-loop-o
invariant-loop-o l =
    l.top ≡ largest l.o (counted_at l.net.bits (state_of l.row.words.now))
