-- office: the bytes written of a report are so few that their count fits any answer.
use mathlib.Core.List.{List}
use Prim.Native.Nat.{ℕ, ◌+◌, ◌≤◌}
use native.Mathlib.Omega.{arith}
use lib.ListN.{length}
use lib.Dec.{leb}
use Rattle.laws.proofs.Fin.{if_cases}
use Rattle.records.specs.declared.Report.{Report}
use Rattle.records.specs.Layout.{report_length, encode_report}
use Rattle.records.specs.Write.{Placed, placed_count}
use Rattle.records.proofs.Lengths.{report_length_lem}

pub report_fits : (out : List ℕ) (at : ℕ) (room : ℕ) (r : Report) (n : ℕ) (after : List ℕ)
    → Placed out at (encode_report room r) n after → n ≤ report_length
unfolding placed_count
report_fits out at room r n after h =
    let size = report_length_lem room r in
    rw h.count (if_cases (λ (k : ℕ). k ≤ report_length) (leb (at + length (encode_report room r)) (length out))
    (length (encode_report room r)) 0 (λ e. omega arith) (λ e. omega arith))
