use mathlib.Core.Path.{◌≡◌, sym, ◌∙◌}
use native.Mathlib.Omega.{arith}
use lib.ListN.{length}
use lib.Seq.{length-sets}
use Rattle.rules.specs.Rules.{restarted}
use Rattle.laws.proofs.Cuts.{same_count}
use Rattle.row.specs.Row.{row_length, words_of}
use Rattle.row.specs.Table.{row_place}
use Rattle.row.proofs.Words.{words_row, restarted_shaped}
use Rattle.row.proofs.Tables.{row_length_lem, row_put, rows_next, rows_words}
use Rattle.row.proofs.table.put_restarted.Goals as goal

pub loop-room-preserved : goal.loop-room-preserved
loop-room-preserved c =
    let l = c.loop-room in
    let a = c.args in
    let row = c.put_restarted.new.s in
    let is = c.put_restarted.ensures in
    let fits : length row ≡ row_length =
    rw is (words_row (restarted a.office a.m) (restarted_shaped a.office a.m)).long in
    let put = row_put l.t row l.room l.invariant.0 (omega arith) fits in (
      rw put (length-sets l.t (row_place l.room) row ∙ l.invariant.0),
      rw put (rows_next l.t row l.room (λ k. words_of (restarted a.office a.m)) l.invariant.0 (omega arith) fits is
          l.invariant.1),
    )

pub returns : goal.returns
returns c =
    let l = c.loop-room in
    rows_words l.t _ l.invariant.0 (λ room lt. l.invariant.1 room (omega arith))
