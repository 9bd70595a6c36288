use mathlib.Core.Path.{refl}
use mathlib.Core.Bool.{true, false}
use native.Mathlib.Omega.{arith}
use Rattle.std.specs.Prelude.{Ok}
use Rattle.feed.proofs.Whole.{ran_begun, ran_on, lent_on, same_on}
use Rattle.feed.proofs.session.Session.turns.Goals as goal

pub loop-init : goal.loop-init
loop-init g c =
    let s = c.requires in (
      rw s.place (ran_begun _ _ _ s.lent.sound s.lent.own),
      record { office = refl; traced = refl; input = refl; room = refl; output = refl },
    )

pub turn-requires : goal.turn-requires
turn-requires g c =
    let l = c.loop.invariant in
    record {
      lent = lent_on c.requires.lent l.1 l.0.sound l.0.own;
      within = l.0.within;
      number = omega (arith, l.0.number);
    }

pub loop-preserved : goal.loop-preserved
loop-preserved g c =
    let l = c.loop.invariant in (
      ran_on (Ok true) c.turn.new.self l.0 l.1 (omega arith)
          (rw c.in-Ok-true.field-0-test at c.in-Ok-true.ensures.turns) (omega arith),
      same_on l.1 c.turn.ensures.same,
    )

pub returns-in-Ok-false : goal.returns-in-Ok-false
returns-in-Ok-false g c =
    let l = c.loop.invariant in
    ran_on (Ok false) c.turn.new.self l.0 l.1 (omega arith)
    (rw c.in-Ok-false.field-0-test at c.in-Ok-false.ensures.turns) refl
