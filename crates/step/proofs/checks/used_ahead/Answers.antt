use Rattle.rules.specs.Refusals.{used_ahead}
use Rattle.step.proofs.checks.used_ahead.Goals as goal

pub returns : goal.returns
unfolding used_ahead
returns c =
    rw (
      c.number.ensures,
      ← c.own-own.ensures,
    )
