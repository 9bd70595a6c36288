use native.Mathlib.Omega.{arith}
use mathlib.Core.Path.{◌≡◌, sym, ◌∙◌}
use mathlib.Core.Bool.{false}
use Rattle.rule_laws.proofs.Steps.{well_facts}
use Rattle.row.specs.Held.{held}
use Rattle.waiting.specs.Waiting.{for_nobody}
use Rattle.waiting.proofs.Laws.{busy_mode}
use Rattle.waiting_for.proofs.Answers.{for_nobody_lem, for_office, is_met}
use Rattle.waiting_for.proofs.in_row.Goals.{Else-for_nobody}
use Rattle.waiting_for.proofs.in_row.Goals as goal

busy : (c : Else-for_nobody) → for_nobody (held c.args.row) ≡ false
busy c = sym c.for_nobody.ensures ∙ c.if-for_nobody.false

pub for_nobody-requires : goal.for_nobody-requires
for_nobody-requires c = (well_facts _ c.requires).own

pub returns-then-for_nobody : goal.returns-then-for_nobody
returns-then-for_nobody c = for_nobody_lem _ c.requires (sym c.for_nobody.ensures ∙ c.if-for_nobody.true)

pub lowest_lacking-requires : goal.lowest_lacking-requires
lowest_lacking-requires c = busy_mode _ (busy (goal.at.lowest_lacking-requires c).Else-for_nobody)

pub returns-in-Some : goal.returns-in-Some
returns-in-Some c =
    let l = c.in-Some.ensures in
    for_office _ c.requires _ (busy (goal.at.returns-in-Some c).Else-for_nobody) l.lowest l.office

pub returns-in-None : goal.returns-in-None
returns-in-None c =
    is_met _ c.requires _ (busy (goal.at.returns-in-None c).Else-for_nobody) c.in-None.ensures.lowest (omega arith)
