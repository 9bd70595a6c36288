use mathlib.Core.Path.{sym}
use native.Mathlib.Omega.{arith}
use borrow.Author.Rules.{rules}
use lib.Seq.{length-take-le}
use Rattle.step.specs.Answers.{answer_of}
use Rattle.buffers.proofs.ProgressLaws.{told}
use Rattle.buffers.proofs.progress.told.Goals as goal

pub slice_bounds-line-end : goal.slice_bounds-line-end
slice_bounds-line-end c =
    sym (length-take-le _ c.args.out.now (omega (arith, c.shown-n.ensures.1, c.requires.written, c.requires.shown)))

pub line-requires : goal.line-requires
line-requires c =
    let n = c.shown-n.ensures.1 in
    let l = length-take-le c.shown-n.result c.args.out.now (omega (arith, n, c.requires.written, c.requires.shown)) in
    omega (arith, l, n, c.requires.line, c.requires.output, c.requires.written)

pub returns : goal.returns
returns c =
    let a = c.args in
    let n = c.shown-n.ensures in
    let l = length-take-le c.shown-n.result a.out.now (omega (arith, n.1, c.requires.written, c.requires.shown)) in
    told a.traced a.p.now a.taken (answer_of a.answer) a.view a.out.now
    c.numbers-refusal.ensures.0 c.numbers-refusal.ensures.1 n.0 c.line.ensures.put (search rules)
    (omega (arith, l, n.1, c.requires.line, c.requires.written)) c.requires.output
