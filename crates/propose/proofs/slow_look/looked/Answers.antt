use mathlib.Core.Path.{sym, ◌∙◌}
use Rattle.propose.proofs.Looks.{looked_empty, looked_there}
use Rattle.propose.proofs.slow_look.looked.Goals as goal

pub returns-then-not-stored_present : goal.returns-then-not-stored_present
returns-then-not-stored_present c =
    looked_empty _ _ _ _ _ _ (sym c.stored_present.ensures ∙ c.if-not-stored_present.true)

pub returns : goal.returns
returns c =
    rw (
      c.max-2.ensures,
      c.counted-2.ensures,
      c.serves.ensures,
      c.max.ensures,
      c.counted.ensures,
      c.stored_kind.ensures,
      c.from.ensures,
      c.eq.ensures,
      c.stored_members.ensures,
      c.stored_number-n.ensures,
    )
    (looked_there _ _ _ _ _ _ (sym c.stored_present.ensures ∙ c.if-not-stored_present.false))
