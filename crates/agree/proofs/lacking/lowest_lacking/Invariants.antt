use mathlib.Core.Path.{◌≡◌}
use Prim.Native.Nat.{◌<◌, ◌^◌}
use Rattle.row.specs.Row.{state_of}
use Rattle.waiting.specs.Waiting.{lowest_lacking}
use Rattle.agree.specs.Agrees.{lowest_in}
use Rattle.agree.proofs.lacking.lowest_lacking.Given as goal

abbrev pub invariant-loop-o : goal.invariant-loop-o
invariant-loop-o l =
    (l.left < 2 ^ 16) × (lowest_in (state_of l.row.words.now) l.left ≡ lowest_lacking (state_of l.row.words.now))

abbrev pub decreases-loop-o : goal.decreases-loop-o
decreases-loop-o l =
    l.left
