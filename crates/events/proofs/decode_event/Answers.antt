use mathlib.Core.Path.{◌≡◌, sym, ap, ◌∙◌}
use Rattle.records.specs.declared.refusal.Refusal.TheVariants as reasons
use Rattle.records.specs.Kinds.{Form}
use Rattle.records.specs.Layout.{check_of}
use Rattle.records.proofs.CheckLaws.{by_report, by_proposal, checked_by_kind, no_kind}
use Rattle.events.proofs.ReadLaws.{handed, decoded_unread, decoded_event}
use Rattle.events.proofs.decode_event.Goals.{In_ok-check_length}
use Rattle.events.proofs.decode_event.Goals as goal

-- checks 4 and 5
passes : (c : In_ok-check_length) → check_of c.args.bytes.now ≡ 0
passes c = sym (c.in_ok-check_length.ensures ∙ checked_by_kind _ _ c.in-Some.ensures _ c.length.ensures)

pub returns-in_default : goal.returns-in_default
returns-in_default c = decoded_unread _ reasons.Mark (no_kind _ c.in_default.ensures)

pub returns-in_err-check_length : goal.returns-in_err-check_length
returns-in_err-check_length c =
    rw (handed _ _ c.from_residual.ensures.1)
    (decoded_unread _ _ (c.in_err-check_length.ensures ∙ checked_by_kind _ _ c.in-Some.ensures _ c.length.ensures))

pub report_in-requires : goal.report_in-requires
report_in-requires c =
    let is = rw c.in-Report.is at c.in-Some.ensures in
    sym (by_report _ (sym (ap (λ (x : Form). x.kind) is))) ∙ passes (goal.at.report_in-requires c).In_ok-check_length

pub proposal_in-requires : goal.proposal_in-requires
proposal_in-requires c =
    let is = rw c.in-Proposal.is at c.in-Some.ensures in
    sym (by_proposal _ (sym (ap (λ (x : Form). x.kind) is)))
    ∙ passes (goal.at.proposal_in-requires c).In_ok-check_length

pub returns-in-Report : goal.returns-in-Report
returns-in-Report c =
    c.in_room.ensures
    ∙ decoded_event _ (passes (goal.at.returns-in-Report c).In_ok-check_length) _ c.report_in.ensures

pub returns-in-Proposal : goal.returns-in-Proposal
returns-in-Proposal c =
    c.in_room-in-Proposal.ensures
    ∙ decoded_event _ (passes (goal.at.returns-in-Proposal c).In_ok-check_length) _ c.proposal_in.ensures
