use borrow.Author.Tests.{eq-eqb, ne_eqb}
use native.Mathlib.Omega.{arith}
use Rattle.records.specs.Layout.{value_of, report_mark, proposal_mark, form_for}
use Rattle.records.proofs.checks.kind_for.Goals as goal

pub returns-in-20037 : goal.returns-in-20037
unfolding form_for
returns-in-20037 c = simp (eq-eqb c.args.value (value_of report_mark) (omega arith))

pub returns-in-20562 : goal.returns-in-20562
unfolding form_for
returns-in-20562 c =
    let v = c.args.value in
    simp (ne_eqb v (value_of report_mark) (λ e. omega arith), eq-eqb v (value_of proposal_mark) (omega arith))

pub returns-in_default : goal.returns-in_default
unfolding form_for
returns-in_default c =
    let v = c.args.value in
    simp (ne_eqb v (value_of report_mark) (λ e. omega arith), ne_eqb v (value_of proposal_mark) (λ e. omega arith))
