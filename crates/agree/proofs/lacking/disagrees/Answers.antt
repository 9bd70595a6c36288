use mathlib.Core.Path.{sym, ◌∙◌}
use Rattle.row.proofs.ModeTests.{tests_slow}
use Rattle.agree.proofs.Looking.{not_there, there}
use Rattle.agree.proofs.lacking.disagrees.Goals as goal

pub returns-then-not-stored_present : goal.returns-then-not-stored_present
returns-then-not-stored_present c =
    not_there _ _ _ _ (sym c.stored_present.ensures ∙ c.if-not-stored_present.true)

pub returns : goal.returns
returns c =
    rw (
      c.stored_kind.ensures,
      c.from-2.ensures,
      c.from.ensures,
      c.ne.ensures,
      c.stored_members.ensures,
      c.eq.ensures,
      tests_slow c.args.mode,
      c.stored_number.ensures,
    )
    (there _ _ _ _ (sym c.stored_present.ensures ∙ c.if-not-stored_present.false))
