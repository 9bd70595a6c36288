use native.Mathlib.Omega.{arith}
use mathlib.Core.Path.{◌≡◌, ◌∙◌}
use mathlib.Core.Bool.{true}
use Prim.Native.Nat.{◌+◌}
use Rattle.rules.specs.State.{State}
use Rattle.rules.specs.Rules.{Outcome, and_then, seated, opens, proposes_fast, tests}
use Rattle.records.specs.Numbers.{limit}
use Rattle.rule_laws.proofs.Recipients.{opens_seated}
use Rattle.row.specs.Held.{held_mut}
use Rattle.event_parts.specs.Bounds.{early, reach, Bounded}
use Rattle.event_parts.specs.Done.{HasRoom}
use Rattle.event_parts.proofs.Bounding.{bounded_le, opens_bounded, fast_bounded}
use Rattle.event_parts.proofs.Dones.{done_then, room_first, room_second}
use Rattle.act.proofs.on_report.fast_round.Goals.{After-opens}
use Rattle.act.proofs.on_report.fast_round.Goals as goal

abbrev later : State → Outcome
later s = and_then (proposes_fast s) tests

-- after the notice
noticed_bounded : (c : After-opens) → Bounded (limit + 1) (held_mut c.opens.new.row)
noticed_bounded c = rw c.opens.ensures.did.is (opens_bounded limit _ c.requires.0)

noticed_seated : (c : After-opens) → seated (held_mut c.opens.new.row) ≡ true
noticed_seated c = rw c.opens.ensures.did.is (opens_seated _ ∙ c.requires.2)

room : (c : After-opens) → HasRoom later c.opens.new.row c.opens.new.out
room c = room_second opens later c.args.row.now c.args.out.now c.requires.1 c.opens.ensures

pub opens-requires : goal.opens-requires
opens-requires c = (
  bounded_le limit _ c.requires.0 reach (omega arith),
  room_first opens later c.args.row.now c.args.out.now c.requires.1,
)

pub proposes_fast-requires : goal.proposes_fast-requires
proposes_fast-requires c =
    let n = (goal.at.proposes_fast-requires c).After-opens in (
      bounded_le (limit + 1) _ (noticed_bounded n) reach (omega arith),
      room_first proposes_fast tests c.opens.new.row c.opens.new.out (room n),
      noticed_seated n,
    )

pub tests-requires : goal.tests-requires
tests-requires c =
    let d = c.proposes_fast.ensures in
    let n = (goal.at.tests-requires c).After-opens in (
      rw d.did.is (bounded_le (limit + 1 + 1) _ (fast_bounded (limit + 1) _ (noticed_bounded n)) early (omega arith)),
      room_second proposes_fast tests c.opens.new.row c.opens.new.out (room n) d,
    )

pub returns : goal.returns
returns c = done_then c.opens.ensures (done_then c.proposes_fast.ensures c.tests.ensures)
