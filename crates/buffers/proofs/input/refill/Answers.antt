use mathlib.Core.Path.{◌∙◌}
use mathlib.Core.Bool.{false}
use lib.Dec.{eqb}
use native.Mathlib.Omega.{arith}
use lib.ListN.{length-take, length-drop}
use Rattle.buffers.proofs.Window.{refilled, refill_failed}
use Rattle.buffers.proofs.input.refill.Goals as goal

pub returns-in_err-got : goal.returns-in_err-got
returns-in_err-got g c =
    let r = c.read_some in
    let f = c.to_front in
    refill_failed c.args.p.now c.args.input.now f.new.buf r.new.part _
    c.requires.0 c.requires.1 f.ensures f.auto.buf
    (simp (length-take, length-drop) at r.auto.part ∙ omega (arith, f.auto.buf)) c.in_err-got.ensures
    c.from_residual.ensures.0

pub returns : goal.returns
returns g c =
    let r = c.read_some in
    let f = c.to_front in
    rw c.is_end-p.ensures (refilled c.args.p.now c.args.input.now f.new.buf r.new.part
    (record { got = c.in_ok-got.got; ended = eqb c.in_ok-got.got 0; failed = false })
    c.requires.0 c.requires.1 f.ensures f.auto.buf
    (simp (length-take, length-drop) at r.auto.part ∙ omega (arith, f.auto.buf)) c.in_ok-got.ensures)
