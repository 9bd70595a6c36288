use lib.ListN.{length}
use Rattle.std.specs.Slice.Iter.{chunks_exact_size, chunks_exact_rest}
use Rattle.row.proofs.Chunks.{Looked}
use Rattle.row.proofs.table.rows_sound.Given as goal

abbrev pub invariant-loop-row : goal.invariant-loop-row
invariant-loop-row l =
    Looked l.t (length l.yielded) (chunks_exact_size l.row-iterator) (chunks_exact_rest l.row-iterator) l.ok
