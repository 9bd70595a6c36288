use mathlib.Core.Path.{refl, sym, ap, ◌∙◌}
use Prim.Native.Nat.{ℕ}
use borrow.Author.Tests.{eqb-false}
use Rattle.rules.specs.Tables.{restarted_table}
use Rattle.row.specs.Table.{table_words}
use Rattle.events.proofs.ReadLaws.{handed, reason_some}
use Rattle.step.proofs.FreshTables.{fresh_1_other, fresh_2, fresh_1, fresh_0, ok_zero, refused_some}
use Rattle.step.proofs.making.fresh.Goals.{then-is_ok, else-is_ok}
use Rattle.step.proofs.making.fresh.Goals as goal

pub returns-in_err-made : goal.returns-in_err-made
returns-in_err-made c =
    rw (handed _ _ c.from_residual.ensures.1)
    (fresh_1_other c.args.office c.args.table.now _ c.in_err-made.ensures c.if-table-ne-WORDS.true
    (eqb-false _ _ (reason_some _)))

pub returns-then-table-ne-WORDS : goal.returns-then-table-ne-WORDS
returns-then-table-ne-WORDS c =
    fresh_2 c.args.office c.args.table.now 0 c.in_ok-made.ensures c.if-table-ne-WORDS.true refl

pub returns : goal.returns
returns c =
    let a = c.args in
    let m = c.office_refusal-made in
    let ok = c.is_ok.ensures.value in
    elim c.if-is_ok.branch [
      | then-is_ok w ↦ fresh_0 a.office a.table.now _ m.ensures c.if-table-ne-WORDS.false
          (ok_zero m.result (sym ok ∙ w.if-is_ok.true)) _
          (c.put_restarted.ensures ∙ ap (λ (o : ℕ). table_words (restarted_table o 0)) w.put_restarted-is)
      | else-is_ok w ↦ fresh_1 a.office a.table.now _ m.ensures c.if-table-ne-WORDS.false
          (refused_some m.result (sym ok ∙ w.if-is_ok.false)) _
          (c.put_restarted.ensures ∙ ap (λ (o : ℕ). table_words (restarted_table o 0)) w.put_restarted-is)
    ]
