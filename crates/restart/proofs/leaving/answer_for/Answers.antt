use mathlib.Core.Path.{sym, ◌∙◌}
use lib.Seq.{length-take-le}
use Rattle.events.proofs.ReadLaws.{handed}
use Rattle.restart.proofs.Exits.{at_front, within_rest, at_above, at_leave}
use borrow.Author.Rules.{rules}
use Rattle.restart.proofs.leaving.answer_for.Goals as goal

pub returns-in_err-kind : goal.returns-in_err-kind
returns-in_err-kind c =
    rw (handed _ _ c.from_residual.ensures.1)
    (at_front _ _ _ c.kind_of.result c.kind_of.ensures _ c.in_err-kind.ensures.refused)

pub slice_bounds-largest_in-end : goal.slice_bounds-largest_in-end
slice_bounds-largest_in-end c =
    let f = c.in_ok-kind.ensures in
    let b = c.args.rest.now in
    let n = c.length-length in
    let k = within_rest c.args.last b _ c.kind_of.result c.kind_of.ensures _ f.kind f.refused n.result n.ensures in
    search (rules, sym (length-take-le n.result b k))

pub returns-then-leaves_above : goal.returns-then-leaves_above
returns-then-leaves_above c =
    let f = c.in_ok-kind.ensures in
    let n = c.length-length in
    at_above _ _ _ c.kind_of.result c.kind_of.ensures _ f.kind f.refused n.result n.ensures
    c.largest_in-largest.result c.largest_in-largest.ensures (sym c.leaves_above.ensures ∙ c.if-leaves_above.true)

pub returns : goal.returns
returns c =
    let f = c.in_ok-kind.ensures in
    let n = c.length-length in
    at_leave _ _ _ c.kind_of.result c.kind_of.ensures _ f.kind f.refused n.result n.ensures
    c.largest_in-largest.result c.largest_in-largest.ensures (sym c.leaves_above.ensures ∙ c.if-leaves_above.false)
    _ c.mark_for-mark.ensures
