use mathlib.Core.Path.{sym, ◌∙◌}
use borrow.Author.Tests.{not-true, not-false}
use Rattle.row.proofs.ModeTests.{tests_fast}
use Rattle.propose.proofs.Calls.{calls_own, calls_other, calls_same}
use Rattle.propose.proofs.slow_call.calls.Goals as goal

pub returns-then-o-own : goal.returns-then-o-own
returns-then-o-own c = calls_own _ _ _ _ _ _ c.if-o-own.true

pub returns-then-ne : goal.returns-then-ne
returns-then-ne c =
    calls_other _ _ _ _ _ _ (rw (← c.stored_members.ensures) (not-true _ (sym c.ne.ensures ∙ c.if-ne.true)))

pub returns : goal.returns
returns c =
    rw (
      c.stored_number.ensures,
      c.stored_kind.ensures,
      c.stored_used.ensures,
      c.from.ensures,
      c.eq.ensures,
      tests_fast c.args.mode,
    )
    (calls_same _ _ _ _ _ _ c.if-o-own.false
    (rw (← c.stored_members.ensures) (not-false _ (sym c.ne.ensures ∙ c.if-ne.false))))
