use mathlib.Core.Path.{◌≡◌, sym, ◌∙◌}
use mathlib.Core.Bool.{false}
use Rattle.rules.specs.Rules.{is_none}
use Rattle.row.specs.Row.{state_of}
use Rattle.row.proofs.ModeTests.{reads_none}
use Rattle.waiting.proofs.Laws.{agreed_none, agreed_lowest}
use Rattle.agree.proofs.Agreeing.{absent_disagrees, none_found}
use Rattle.agree.proofs.agreement.agreed.Goals.{Else-eq}
use Rattle.agree.proofs.agreement.agreed.Goals as goal

-- in mode fast or slow
busy : (c : Else-eq) → is_none (state_of c.args.row.words.now).mode ≡ false
busy c = sym (reads_none _ c.mode.ensures c.eq.ensures) ∙ c.if-eq.false

pub returns-then-eq : goal.returns-then-eq
returns-then-eq c = sym (agreed_none _ (sym (reads_none _ c.mode.ensures c.eq.ensures) ∙ c.if-eq.true))

pub returns-then-offices-present-ne0 : goal.returns-then-offices-present-ne0
returns-then-offices-present-ne0 c =
    let s = state_of c.args.row.words.now in
    sym (absent_disagrees s _
    (rw (c.present.ensures, c.touched-offices.ensures, c.net.ensures))
    c.if-offices-present-ne0.true)

pub lowest_lacking-requires : goal.lowest_lacking-requires
lowest_lacking-requires c = busy (goal.at.lowest_lacking-requires c).Else-eq

pub returns : goal.returns
returns c =
    let l = c.lowest_lacking.ensures in
    none_found _ _ _ c.is_none.ensures l.lowest l.office
    ∙ sym (agreed_lowest _ (busy (goal.at.returns c).Else-eq))
