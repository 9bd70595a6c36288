use mathlib.Core.Path.{sym, ◌∙◌}
use Rattle.rules.specs.Rules.{report_rule}
use Rattle.rule_laws.proofs.Repeats.{repeat_rule, change_rule_lem}
use Rattle.row.specs.Held.{held_mut}
use Rattle.event_parts.proofs.Dones.{done_as, done_none}
use Rattle.act.proofs.on_report.act_on_report.Goals as goal

pub returns-then-is_repeat : goal.returns-then-is_repeat
returns-then-is_repeat c =
    done_as (λ u. report_rule u c.args.r) (done_none _ _)
    (sym (repeat_rule (held_mut c.args.row.now) c.args.r
    (rw c.get.ensures at (sym c.is_repeat.ensures ∙ c.if-is_repeat.true))))

pub returns : goal.returns
returns c =
    done_as (λ u. report_rule u c.args.r) c.act_on_change.ensures
    (sym (change_rule_lem (held_mut c.args.row.now) c.args.r
    (rw c.get.ensures at (sym c.is_repeat.ensures ∙ c.if-is_repeat.false))))
