use mathlib.Core.Path.{refl, sym, ap, ◌∙◌}
use mathlib.Core.List.{List}
use Prim.Native.Nat.{ℕ}
use native.Mathlib.Omega.{arith}
use Rattle.rule_laws.proofs.Steps.{well_facts}
use Rattle.rules.specs.Rules.{Outcome, net_after, with_net, change_rule}
use Rattle.rules.specs.Refusals.{well_formed, a_report}
use Rattle.rule_laws.proofs.Repeats.{repeat_rule, change_rule_lem}
use Rattle.row.specs.Row.{state_of}
use Rattle.step.specs.Checks.{made_within}
use Rattle.step.proofs.Lowness.{report_stays}
use Rattle.step.proofs.Within.{made_is_well}
use Rattle.row.proofs.Low.{capped_is}
use Rattle.step.proofs.refusals.report_within.Goals as goal

pub returns-then-is_capped : goal.returns-then-is_capped
returns-then-is_capped c =
    let ws = c.args.row.words.now in
    sym (report_stays (state_of ws) c.requires
    (capped_is ws (sym c.is_capped.ensures ∙ c.if-is_capped.true)) c.args.r)

pub returns-then-is_repeat : goal.returns-then-is_repeat
returns-then-is_repeat c =
    let ws = c.args.row.words.now in
    sym (ap (λ (o : Outcome). well_formed o.state)
    (repeat_rule (state_of ws) c.args.r (sym c.is_repeat.ensures ∙ c.if-is_repeat.true))
    ∙ c.requires)

pub copy-requires : goal.copy-requires
copy-requires c = sym c.args.row.is.long

pub invariant_of-tried : goal.invariant_of-tried
invariant_of-tried c = rw c.copy.ensures (record { is = c.args.row.is; office = (well_facts _ c.requires).own })

pub act_on_change-requires : goal.act_on_change-requires
act_on_change-requires c = (rw c.copy.ensures c.requires, omega arith)

-- what is tried is the rule, since it is no repeat
pub returns : goal.returns
returns c =
    let ws = c.args.row.words.now in
    let r = c.args.r in
    let rule = change_rule_lem (state_of ws) r (sym c.is_repeat.ensures ∙ c.if-is_repeat.false) in
    rw c.get.ensures at c.made_within.ensures
    ∙ ap made_within (c.act_on_change.ensures.did.is
    ∙ ap (λ (l : List ℕ). (change_rule (with_net (state_of l) (net_after (state_of l).net.bits r))).state)
    c.copy.ensures
    ∙ ap (λ (o : Outcome). o.state) (sym rule))
    ∙ made_is_well (state_of ws) (a_report r) c.requires refl
