use mathlib.Core.Path.{ap, ◌∙◌}
use mathlib.Core.List.{List}
use Prim.Native.Nat.{ℕ}
use native.Mathlib.Omega.{arith}
use lib.ListN.{set, length-set}
use Rattle.laws.proofs.Tab.{length_tab}
use Rattle.row.specs.Row.{row_length, own_place, start_place, number_place, view_place}
use Rattle.row.proofs.StoreLaws.{restarted_words}
use Rattle.row.proofs.changes.put_restarted.Goals as goal

pub returns : goal.returns
returns c =
    let a = c.args in
    rw c.from.ensures
    (ap (λ (l : List ℕ). set (set (set (set l own_place a.office) start_place a.m) number_place a.m) view_place
    a.m)
    c.put_zeros.ensures
    ∙ restarted_words a.office a.m)
