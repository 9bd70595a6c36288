use mathlib.Core.Path.{sym}
use Rattle.events.specs.Events.{event_held}
use Rattle.step.proofs.Exits.{handed_meets}
use Rattle.step.proofs.Unready.{exit_unfit, unfit_ready}
use Rattle.step.proofs.act.Goals as goal

pub returns-in_err-act_refusal : goal.returns-in_err-act_refusal
returns-in_err-act_refusal c =
    let a = c.args in
    handed_meets a.event.room _ _ a.table.now a.out.now _ c.from_residual.ensures.1
    (exit_unfit a.table.now (event_held a.event) _ _ c.in_err-act_refusal.ensures)

pub act_read-requires : goal.act_read-requires
act_read-requires c =
    unfit_ready c.args.table.now (event_held c.args.event) _ (sym c.in_ok-act_refusal.ensures)
