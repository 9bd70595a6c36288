use mathlib.Core.Path.{refl}
use Rattle.rules.specs.Refusals.{a_report}
use Rattle.step.proofs.Exits.{handed_meets, exit_refused, accept_meets}
use Rattle.step.proofs.acting.act_report.Goals as goal

pub report-requires : goal.report-requires
report-requires c = rw c.get.ensures c.requires.well

pub returns-in_err-report : goal.returns-in_err-report
returns-in_err-report c =
    let a = c.args in
    record {
      same_row = refl;
      same_bytes = refl;
      stepped = λ below.
          handed_meets _ _ _ a.row.now.words.now a.out.now.bytes.now _ c.from_residual.ensures.1
          (exit_refused a.row.now.words.now (a_report a.report) _ (rw c.get.ensures at c.in_err-report.ensures));
    }

pub returns : goal.returns
returns c =
    let a = c.args in
    let d = c.act_on_report.ensures in
    record {
      same_row = d.same_row;
      same_bytes = d.same_out;
      stepped = accept_meets a.row.now.words.now (a_report a.report) (rw c.get.ensures at c.in_ok-report.ensures)
          _ _ _ _ _ (rw c.requires.first at d.did);
    }
