use mathlib.Core.Path.{◌≡◌, ap, ◌∙◌}
use native.Mathlib.Omega.{arith}
use mathlib.Core.List.{◌++◌}
use lib.ListN.{length}
use Rattle.std.specs.Slice.Iter.{chunks_exact_rest, chunks_exact_size}
use Rattle.records.specs.Layout.{high_length}
use Rattle.restart.specs.Marks.{marks_as}
use Rattle.restart.proofs.Passing.{Going, going_none, going_next, pass_bad, pass_end}
use Rattle.restart.proofs.marks.pass.Goals.{After-high_after}
use Rattle.restart.proofs.marks.pass.Goals as goal

-- the record at hand is whole, and stands in front of what is left
size : (c : After-high_after) → length c.in-Some.bytes.now ≡ high_length
size c = c.in-Some.ensures.steps.1.1 ∙ c.loop-bytes.invariant.2

front : (c : After-high_after)
    → Going c.args.file.now (c.in-Some.bytes.now ++ chunks_exact_rest c.next.new.self) c.loop-bytes.last
front c = rw c.in-Some.ensures.steps.1.0 at c.loop-bytes.invariant.3

pub loop-bytes-init : goal.loop-bytes-init
loop-bytes-init c =
    let chunks = c.chunks_exact-bytes-items.ensures in
    let gives = c.into_iter-bytes-iterator.ensures.into_iter_gives in
    let size = ap chunks_exact_size gives ∙ chunks.size in
    (omega arith, tt, size, rw (ap chunks_exact_rest gives ∙ chunks.rest) (going_none _))

pub returns-in_err-last : goal.returns-in_err-last
returns-in_err-last c =
    let at = (goal.at.returns-in_err-last c).After-high_after in
    ap marks_as c.from_residual.ensures ∙ pass_bad _ _ _ _ (size at) (front at) c.in_err-last.ensures

pub loop-bytes-preserved : goal.loop-bytes-preserved
loop-bytes-preserved c =
    let at = (goal.at.loop-bytes-preserved c).After-high_after in
    let same = c.in-Some.ensures.steps.0 ∙ c.loop-bytes.invariant.2 in
    (omega arith, tt, same, going_next _ _ _ _ (size at) (front at) _ c.in_ok-last.ensures)

pub returns : goal.returns
returns c =
    let short = c.in-None.ensures.steps.1.0 in
    let size = c.loop-bytes.invariant.2 in
    pass_end _ _ _ (omega arith) c.loop-bytes.invariant.3
