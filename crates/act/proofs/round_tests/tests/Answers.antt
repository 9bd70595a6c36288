use native.Mathlib.Omega.{arith}
use Prim.Native.Nat.{◌+◌}
use Rattle.rules.specs.Rules.{and_then, slow_test, agreement_test, tests}
use Rattle.event_parts.specs.Bounds.{early, reach}
use Rattle.event_parts.specs.Done.{HasRoom}
use Rattle.event_parts.proofs.Bounding.{bounded_le, slow_test_bounded}
use Rattle.event_parts.proofs.Dones.{room_as}
use Rattle.event_parts.proofs.Dones.{done_as, done_then, room_first, room_second}
use Rattle.act.proofs.round_tests.Outcomes.{tests_is}
use Rattle.act.proofs.round_tests.tests.Goals.{Start}
use Rattle.act.proofs.round_tests.tests.Goals as goal

room : (c : Start) → HasRoom (λ s. and_then (slow_test s) agreement_test) c.args.row.now c.args.out.now
room c =
    room_as (λ s. and_then (slow_test s) agreement_test) tests c.args.row.now c.args.out.now (tests_is _) c.requires.1

pub slow_test-requires : goal.slow_test-requires
slow_test-requires c = (
  c.requires.0,
  room_first slow_test agreement_test c.args.row.now c.args.out.now (room (goal.at.slow_test-requires c).Start),
)

pub agreement_test-requires : goal.agreement_test-requires
agreement_test-requires c =
    let d = c.slow_test.ensures in (
      rw d.did.is (bounded_le (early + 2) _ (slow_test_bounded early _ c.requires.0) reach (omega arith)),
      room_second slow_test agreement_test c.args.row.now c.args.out.now
          (room (goal.at.agreement_test-requires c).Start) d,
    )

pub returns : goal.returns
returns c = done_as tests (done_then c.slow_test.ensures c.agreement_test.ensures) (tests_is _)
