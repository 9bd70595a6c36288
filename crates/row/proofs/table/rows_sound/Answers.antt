use mathlib.Core.Path.{ap, ◌∙◌}
use lib.ListN.{length-append}
use Rattle.std.specs.Slice.Iter.{chunks_exact_size, chunks_exact_rest}
use Rattle.row.proofs.Chunks.{looked_none, looked_one, looked_all}
use Rattle.row.proofs.table.rows_sound.Goals as goal

pub loop-row-init : goal.loop-row-init
loop-row-init c =
    let i = c.into_iter-row-iterator.ensures.into_iter_gives in
    looked_none c.args.t.now c.requires _ _ (ap chunks_exact_size i ∙ c.chunks_exact-row-items.ensures.size)
    (ap chunks_exact_rest i ∙ c.chunks_exact-row-items.ensures.rest)

pub loop-row-preserved : goal.loop-row-preserved
loop-row-preserved c =
    let s = c.in-Some.ensures.steps in
    simp length-append (looked_one c.args.t.now c.requires c.loop-row.invariant _ _ _ _ s.0 s.1.0 s.1.1
    c.is_sound-ok.ensures)

pub returns : goal.returns
returns c = looked_all c.args.t.now c.requires c.loop-row.invariant c.in-None.ensures.steps.1.0
