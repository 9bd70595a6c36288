use mathlib.Core.Path.{◌≡◌, sym, ap, ◌∙◌}
use Prim.Native.Nat.{ℕ}
use borrow.Author.Tests.{leb-false}
use Rattle.records.specs.Numbers.{room_count}
use Rattle.rules.specs.Refusals.{form_refusal}
use Rattle.events.specs.Events.{event_held}
use Rattle.events.proofs.ReadLaws.{handed}
use Rattle.step.specs.Checks.{unready}
use Rattle.step.proofs.Readiness.{ready_facts, unfit_unready, unfit_20, unfit_form}
use Rattle.step.proofs.act_refusal.Goals.{In_ok-unready}
use Rattle.step.proofs.act_refusal.Goals as goal

-- checks 2 and 3 passed
ready : (c : In_ok-unready) → let a = c.args in unready a.table.now a.output ≡ 0
ready c = sym c.in_ok-unready.ensures

pub returns-in_err-unready : goal.returns-in_err-unready
returns-in_err-unready c =
    let a = c.args in
    rw (handed _ _ c.from_residual.ensures.1)
    (unfit_unready a.table.now (event_held a.event) a.output _ c.in_err-unready.ensures)

pub returns-then-room_above : goal.returns-then-room_above
returns-then-room_above c =
    unfit_20 _ _ _ (ready (goal.at.returns-then-room_above c).In_ok-unready)
    (sym c.room_above.ensures ∙ c.if-room_above.true)

pub own_of-requires : goal.own_of-requires
own_of-requires c =
    let a = c.args in (
      (ready_facts a.table.now a.output (ready (goal.at.own_of-requires c).In_ok-unready)).0,
      leb-false room_count a.event.room (sym c.room_above.ensures ∙ c.if-room_above.false),
    )

pub returns : goal.returns
returns c =
    let a = c.args in
    unfit_form _ _ _ (ready (goal.at.returns c).In_ok-unready)
    (sym c.room_above.ensures ∙ c.if-room_above.false) _
    (c.event_refusal.ensures ∙ ap (λ (k : ℕ). form_refusal k (event_held a.event).what) c.own_of.ensures)
