use mathlib.Core.Path.{◌≡◌, sym, ◌∙◌}
use Rattle.rule_laws.proofs.Steps.{well_facts}
use Rattle.laws.specs.Checks.{first_of}
use Rattle.rules.specs.Refusals.{a_proposal, proposal_checks}
use Rattle.rule_laws.proofs.Checking.{form_passed, form_sender}
use Rattle.events.proofs.ReadLaws.{handed}
use Rattle.row.specs.Held.{held}
use Rattle.step.proofs.Refusal.{from_checks, from_13}
use Rattle.step.proofs.refusals.proposal.Goals.{In_ok-state_refusal}
use Rattle.step.proofs.refusals.proposal.Goals as goal

-- 11 and 12 passed, behind 6 to 10 and 19
passed : (c : In_ok-state_refusal) → let a = c.args in first_of (proposal_checks (held a.row) a.p.now) ≡ 0
passed c = form_passed _ _ c.requires.1 ∙ sym c.in_ok-state_refusal.ensures

pub state_refusal-requires : goal.state_refusal-requires
state_refusal-requires c =
    ((well_facts _ c.requires.0).own, form_sender (held c.args.row).own c.args.p.now c.requires.1)

pub returns-in_err-state_refusal : goal.returns-in_err-state_refusal
returns-in_err-state_refusal c =
    rw (handed _ _ c.from_residual.ensures.1)
    (from_checks _ (a_proposal _) _ (c.in_err-state_refusal.ensures ∙ sym (form_passed _ _ c.requires.1)))

pub proposal_within-requires : goal.proposal_within-requires
proposal_within-requires c = (c.requires.0, passed (goal.at.proposal_within-requires c).In_ok-state_refusal)

pub returns : goal.returns
returns c =
    c.ceiling.ensures
    ∙ from_13 _ (a_proposal _) (passed (goal.at.returns c).In_ok-state_refusal) _ c.proposal_within.ensures
