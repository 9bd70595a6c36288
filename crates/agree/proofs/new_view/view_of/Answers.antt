use native.Mathlib.Omega.{arith}
use mathlib.Core.Path.{◌≡◌, ap, ◌∙◌}
use Rattle.laws.specs.Fin.{largest}
use Rattle.rules.specs.Rules.{start_of}
use Rattle.row.specs.Row.{state_of}
use Rattle.agree.specs.declared.new_view.Laid.{Laid}
use Rattle.agree.proofs.Laying.{laid_largest, laid_view}
use Rattle.agree.proofs.new_view.view_of.Goals as goal

pub overflow_add-result : goal.overflow_add-result
overflow_add-result c =
    let s = state_of c.args.row.words.now in
    let e : c.lay_starts-laid.result.largest ≡ largest 16 (start_of s) =
    ap (λ (r : Laid). r.largest) c.lay_starts-laid.ensures ∙ laid_largest s 16 (omega arith) in
    let h = c.requires in
    omega arith

pub returns : goal.returns
returns c = rw (c.net-net.ensures, c.lay_starts-laid.ensures) (laid_view _)
