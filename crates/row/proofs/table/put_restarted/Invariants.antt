use mathlib.Core.Path.{◌≡◌}
use Prim.Native.Nat.{ℕ, ◌<◌}
use lib.ListN.{length}
use Rattle.rules.specs.Rules.{restarted}
use Rattle.row.specs.Row.{words_of}
use Rattle.row.specs.Table.{table_length, row_at}
use Rattle.row.proofs.table.put_restarted.Given as goal

abbrev pub invariant-loop-room : goal.invariant-loop-room
invariant-loop-room l =
    (length l.t ≡ table_length)
    × ((k : ℕ) → k < l.room → row_at l.t k ≡ words_of (restarted l.office l.m))
