use mathlib.Core.Path.{ap}
use Prim.Native.Nat.{ℕ}
use lib.ListN.{take, drop}
use Rattle.laws.proofs.Cuts.{same_count}
use Rattle.row.specs.Row.{row_length}
use Rattle.row.specs.Table.{row_place}
use Rattle.row.proofs.table.row_of.Goals as goal

pub returns : goal.returns
returns c =
    let a = c.args in
    rw c.from-at.ensures
    (ap (λ (n : ℕ). take n (drop (row_place a.room) a.t.now)) (same_count (row_place a.room) row_length))
