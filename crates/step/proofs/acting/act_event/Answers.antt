use native.Mathlib.Omega.{arith}
use mathlib.Core.Path.{refl}
use Rattle.rule_laws.proofs.Steps.{well_facts}
use Rattle.row.specs.Row.{state_of}
use Rattle.row.proofs.Low.{sound_row_lem, sound_well}
use borrow.Author.Rules.{rules}
use Rattle.step.proofs.Exits.{given_back}
use Rattle.step.proofs.acting.act_event.Goals as goal

pub invariant_of-row : goal.invariant_of-row
invariant_of-row c =
    let s = c.requires.0.sound in
    record { is = sound_row_lem _ s; office = (well_facts (state_of _) (sound_well _ s)).own }

pub act_report-requires : goal.act_report-requires
act_report-requires c =
    let r = c.requires.0 in record { well = sound_well _ r.sound; first = refl; fits = r.fits }

pub invariant_of-row-in-Proposal : goal.invariant_of-row-in-Proposal
invariant_of-row-in-Proposal c =
    let s = c.requires.0.sound in
    record { is = sound_row_lem _ s; office = (well_facts (state_of _) (sound_well _ s)).own }

pub act_proposal-requires : goal.act_proposal-requires
act_proposal-requires c =
    let r = c.requires.0 in
    (record { well = sound_well _ r.sound; first = refl; fits = r.fits }, rw c.in-Proposal.is at c.requires.1)

pub returns-in-Report : goal.returns-in-Report
returns-in-Report c =
    rw c.in-Report.is
    (given_back _ _ c.act_report.ensures (search rules) (search rules) (λ k. omega (arith, c.type_inv.state k)))

pub returns-in-Proposal : goal.returns-in-Proposal
returns-in-Proposal c =
    rw c.in-Proposal.is
    (given_back _ _ c.act_proposal.ensures (search rules) (search rules) (λ k. omega (arith, c.type_inv.state k)))
