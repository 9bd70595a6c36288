use mathlib.Core.Path.{◌≡◌}
use Rattle.records.specs.Layout.{sync_length}
use Rattle.came_along.proofs.Passing.{Going}
use Rattle.came_along.proofs.checks.Asked.pass.Given as goal

abbrev pub invariant-loop-bytes : goal.invariant-loop-bytes
invariant-loop-bytes l =
    (l.bytes-iterator.size ≡ sync_length)
    × Going l.self.view l.self.previous l.sheet l.bytes-iterator.rest.now l.found
