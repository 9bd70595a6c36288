use mathlib.Core.Path.{sym, ap, ◌∙◌}
use mathlib.Core.Bool.{◌&&◌}
use mathlib.Core.List.{List}
use Prim.Native.Nat.{ℕ}
use native.Mathlib.Omega.{arith}
use lib.Dec.{leb}
use borrow.Author.Tests.{leb-true, not-true}
use Rattle.rule_laws.proofs.Steps.{well_facts}
use Rattle.laws.proofs.Fin.{and_l, and_r}
use Rattle.rules.specs.Rules.{proposal_rule}
use Rattle.rules.specs.Refusals.{a_proposal}
use Rattle.rule_laws.proofs.Steps.{check_facts}
use Rattle.rules.specs.Bounds.{low}
use Rattle.row.specs.Row.{state_of}
use Rattle.step.specs.Checks.{made_within}
use Rattle.step.proofs.Lowness.{other_stays, proposal_stays}
use Rattle.step.proofs.Within.{made_is_well}
use Rattle.row.proofs.Low.{capped_is}
use Rattle.step.proofs.refusals.proposal_within.Goals as goal

pub returns-then-ne : goal.returns-then-ne
returns-then-ne c =
    let ws = c.args.row.words.now in
    sym (other_stays (state_of ws) c.requires.0 c.args.p.now c.requires.1
    (rw (← c.net.ensures) (not-true _ (sym c.if-ne.ensures))))

pub returns-then-p-is_capped : goal.returns-then-p-is_capped
returns-then-p-is_capped c =
    let ws = c.args.row.words.now in
    let a = leb c.args.p.now.start low in
    let b = leb c.args.p.now.number low in
    let both = and_l (a && b) _ c.if-p-is_capped.true in
    sym (proposal_stays (state_of ws) c.requires.0
    (capped_is ws (sym c.is_capped.ensures ∙ and_r (a && b) _ c.if-p-is_capped.true)) c.args.p.now c.requires.1
    (leb-true _ _ (and_l a b both)) (leb-true _ _ (and_r a b both)))

pub copy-requires : goal.copy-requires
copy-requires c = sym c.args.row.is.long

pub invariant_of-tried : goal.invariant_of-tried
invariant_of-tried c = rw c.copy.ensures (record { is = c.args.row.is; office = (well_facts _ c.requires.0).own })

pub act_on_proposal-requires : goal.act_on_proposal-requires
act_on_proposal-requires c =
    let f = check_facts (state_of c.args.row.words.now) c.args.p.now c.requires.1 in
    record {
      row = (rw c.copy.ensures c.requires.0, omega arith);
      sender_bound = (f.sender, f.start.1, f.number.1);
    }

pub returns : goal.returns
returns c =
    let ws = c.args.row.words.now in
    rw c.get.ensures at c.made_within.ensures
    ∙ ap made_within (c.act_on_proposal.ensures.did.is
    ∙ ap (λ (l : List ℕ). (proposal_rule (state_of l) c.args.p.now).state) c.copy.ensures)
    ∙ made_is_well (state_of ws) (a_proposal c.args.p.now) c.requires.0 c.requires.1
