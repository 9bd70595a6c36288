use mathlib.Core.Path.{sym, ◌∙◌}
use Rattle.rule_laws.proofs.Checking.{sender_office}
use Rattle.events.proofs.form.form_refusal.Goals as goal

-- check 6 passed, so the sender is an office
pub uses_itself-requires : goal.uses_itself-requires
uses_itself-requires c =
    sender_office c.args.office c.args.p.now (sym c.wrong_sender.ensures ∙ c.if-wrong_sender.false)
