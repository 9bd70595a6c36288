use mathlib.Core.Path.{◌≡◌}
use Rattle.std.specs.Slice.Iter.{chunks_exact_rest, chunks_exact_size}
use Rattle.records.specs.Layout.{high_length}
use Rattle.restart.proofs.Passing.{Going}
use Rattle.restart.proofs.marks.pass.Given as goal

abbrev pub invariant-loop-bytes : goal.invariant-loop-bytes
invariant-loop-bytes l =
    (goal.iterator-loop-bytes).can_next l.bytes-iterator × (goal.iterator-loop-bytes).is_finite l.bytes-iterator
    × (chunks_exact_size l.bytes-iterator ≡ high_length) × Going l.file (chunks_exact_rest l.bytes-iterator) l.last
