use native.Mathlib.Omega.{arith}
use Prim.Native.Nat.{◌+◌}
use mathlib.Core.Path.{◌≡◌, sym, ◌∙◌}
use Rattle.rules.specs.State.{None}
use mathlib.Core.Bool.{false}
use Rattle.row.specs.Held.{held_mut}
use Rattle.row.proofs.ModeTests.{reads_none}
use Rattle.rules.specs.Rules.{is_none, and_then, opens, proposes_slow, slow_test}
use Rattle.event_parts.specs.Bounds.{early, reach}
use Rattle.event_parts.specs.Done.{HasRoom}
use Rattle.event_parts.proofs.Bounding.{bounded_le, opens_bounded}
use Rattle.event_parts.proofs.Dones.{room_as}
use Rattle.event_parts.proofs.Dones.{done_as, done_then, done_none, room_first, room_second}
use Rattle.rule_laws.proofs.Modes.{none_is, busy_is}
use Rattle.propose.proofs.SlowCases.{slow_first, slow_made, slow_quiet}
use Rattle.propose.proofs.slow_test.slow_test.Goals.{Then-eq, Else-eq}
use Rattle.propose.proofs.slow_test.slow_test.Goals as goal

-- no agreement is under way
idle : (c : Then-eq) → (held_mut c.args.row.now).mode ≡ None
idle c =
    none_is _ (sym (reads_none _ (rw c.get.ensures at c.mode.ensures) c.eq.ensures) ∙ c.if-eq.true)

room : (c : Then-eq) → HasRoom (λ s. and_then (opens s) proposes_slow) c.args.row.now c.args.out.now
room c =
    room_as (λ s. and_then (opens s) proposes_slow) slow_test c.args.row.now c.args.out.now (slow_first _ (idle c))
    c.requires.1

-- one is
busy : (c : Else-eq) → is_none (held_mut c.args.row.now).mode ≡ false
busy c = sym (reads_none _ (rw c.get.ensures at c.mode.ensures) c.eq.ensures) ∙ c.if-eq.false

pub opens-requires : goal.opens-requires
opens-requires c = (
  bounded_le early _ c.requires.0 reach (omega arith),
  room_first opens proposes_slow c.args.row.now c.args.out.now (room (goal.at.opens-requires c).Then-eq),
)

pub proposes_slow-requires : goal.proposes_slow-requires
proposes_slow-requires c =
    let d = c.opens.ensures in (
      rw d.did.is (bounded_le (early + 1) _ (opens_bounded early _ c.requires.0) reach (omega arith)),
      room_second opens proposes_slow c.args.row.now c.args.out.now (room (goal.at.proposes_slow-requires c).Then-eq) d,
    )

pub returns-then-eq : goal.returns-then-eq
returns-then-eq c =
    done_as slow_test (done_then c.opens.ensures c.proposes_slow.ensures)
    (slow_first _ (idle (goal.at.returns-then-eq c).Then-eq))

pub slow_called-requires : goal.slow_called-requires
slow_called-requires c =
    rw c.get-2.ensures (c.args.row.now.office, busy (goal.at.slow_called-requires c).Else-eq)

pub proposes_slow-requires-then-slow_called : goal.proposes_slow-requires-then-slow_called
proposes_slow-requires-then-slow_called c =
    let e = slow_made (held_mut c.args.row.now)
    (busy_is _ (busy (goal.at.proposes_slow-requires-then-slow_called c).Else-eq))
    (rw c.get-2.ensures at (sym c.slow_called.ensures ∙ c.if-slow_called.true)) in (
      bounded_le early _ c.requires.0 reach (omega arith),
      room_as proposes_slow slow_test c.args.row.now c.args.out.now e c.requires.1,
    )

pub returns-then-slow_called : goal.returns-then-slow_called
returns-then-slow_called c =
    done_as slow_test c.proposes_slow-then-slow_called.ensures
    (slow_made _ (busy_is _ (busy (goal.at.returns-then-slow_called c).Else-eq))
    (rw c.get-2.ensures at (sym c.slow_called.ensures ∙ c.if-slow_called.true)))

pub returns-else-slow_called : goal.returns-else-slow_called
returns-else-slow_called c =
    done_as slow_test (done_none _ _)
    (slow_quiet _ (rw c.get-2.ensures at (sym c.slow_called.ensures ∙ c.if-slow_called.false)))
