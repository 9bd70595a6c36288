use mathlib.Core.Bool.{true}
use Prim.Native.Nat.{◌-◌, ◌^◌}
use Rattle.std.specs.Prelude.{Ok}
use Rattle.feed.specs.Session.{Same}
use Rattle.feed.specs.Steps.{RanTo}
use Rattle.feed.proofs.session.Session.turns.Given as goal

abbrev pub invariant-loop : goal.invariant-loop
invariant-loop g l =
    RanTo l.initial.self (Ok true) (2 ^ 64 - 1 - l.counter) l.self × Same l.initial.self l.self
