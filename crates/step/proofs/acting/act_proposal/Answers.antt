use mathlib.Core.Path.{◌≡◌, refl}
use Rattle.rules.specs.Refusals.{a_proposal, act_of}
use Rattle.rule_laws.proofs.Steps.{check_facts}
use Rattle.row.specs.Held.{held_mut}
use Rattle.step.proofs.Exits.{handed_meets, exit_refused, accepts_event, accept_meets}
use Rattle.step.proofs.acting.act_proposal.Goals.{In_ok-proposal}
use Rattle.step.proofs.acting.act_proposal.Goals as goal

pub proposal-requires : goal.proposal-requires
proposal-requires c = rw c.get.ensures (c.requires.0.well, c.requires.1)

pub returns-in_err-proposal : goal.returns-in_err-proposal
returns-in_err-proposal c =
    let a = c.args in
    record {
      same_row = refl;
      same_bytes = refl;
      stepped = λ below.
          handed_meets _ _ _ a.row.now.words.now a.out.now.bytes.now _ c.from_residual.ensures.1
          (exit_refused a.row.now.words.now (a_proposal a.proposal) _ (rw c.get.ensures at c.in_err-proposal.ensures));
    }

-- no check refuses it
passes : (c : In_ok-proposal) → 0 ≡ (act_of (held_mut c.args.row.now) (a_proposal c.args.proposal)).refusal
passes c = rw c.get.ensures at c.in_ok-proposal.ensures

pub act_on_proposal-requires : goal.act_on_proposal-requires
act_on_proposal-requires c =
    let ready = c.requires.0 in
    let p = c.args.proposal in
    let t = accepts_event _ (a_proposal p) (passes (goal.at.act_on_proposal-requires c).In_ok-proposal) in
    let f = check_facts (held_mut c.args.row.now) p t.passes in
    record {
      row = (ready.well, rw ready.first ready.fits);
      sender_bound = (f.sender, f.start.1, f.number.1);
    }

pub returns : goal.returns
returns c =
    let a = c.args in
    let d = c.act_on_proposal.ensures in
    record {
      same_row = d.same_row;
      same_bytes = d.same_out;
      stepped = accept_meets a.row.now.words.now (a_proposal a.proposal) (passes (goal.at.returns c).In_ok-proposal)
          _ _ _ _ _ (rw c.requires.0.first at d.did);
    }
