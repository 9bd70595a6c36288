use mathlib.Core.Path.{refl, ap, ◌∙◌}
use Prim.Native.Nat.{ℕ}
use borrow.Author.Tests.{eqb-false}
use Rattle.rules.specs.Tables.{restarted_table}
use Rattle.row.specs.Table.{table_words}
use Rattle.events.proofs.ReadLaws.{reason_some, handed}
use Rattle.restart.specs.Marks.{marks_as}
use Rattle.restart.proofs.RestartTables.{restart_refused_other, restart_2, restart_refuses, restart_0}
use Rattle.restart.proofs.restarting.restart.Goals as goal

pub returns-in_err-mark : goal.returns-in_err-mark
returns-in_err-mark c =
    let a = c.args in
    let m = c.last_mark in
    rw (handed _ _ c.from_residual.ensures.1)
    (restart_refused_other a.office a.file.now a.table.now (marks_as m.result) m.ensures _
    c.in_err-mark.ensures.refused c.if-table-ne-WORDS.true (eqb-false _ _ (reason_some _)))

pub returns-then-table-ne-WORDS : goal.returns-then-table-ne-WORDS
returns-then-table-ne-WORDS c =
    let a = c.args in
    let m = c.last_mark in
    restart_2 a.office a.file.now a.table.now (marks_as m.result) m.ensures 0 c.in_ok-mark.ensures.refused
    c.if-table-ne-WORDS.true refl

pub returns-in-Ok : goal.returns-in-Ok
returns-in-Ok c =
    let a = c.args in
    let m = c.last_mark in
    restart_0 a.office a.file.now a.table.now (marks_as m.result) m.ensures 0 c.in-Ok.ensures.refused
    c.if-table-ne-WORDS.false _ refl
    (c.put_restarted.ensures ∙ ap (λ (n : ℕ). table_words (restarted_table a.office n)) c.in-Ok.ensures.last)

pub returns-in-Err : goal.returns-in-Err
returns-in-Err c =
    let a = c.args in
    let m = c.last_mark in
    restart_refuses a.office a.file.now a.table.now (marks_as m.result) m.ensures _ c.in-Err.ensures.refused
    c.if-table-ne-WORDS.false _ (eqb-false _ _ (reason_some _)) c.put_restarted-in-Err.ensures
