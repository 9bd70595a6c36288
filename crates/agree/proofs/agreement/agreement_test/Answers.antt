use native.Mathlib.Omega.{arith}
use mathlib.Core.Path.{◌≡◌, refl, sym, ◌∙◌}
use mathlib.Core.Bool.{true}
use borrow.Author.Rules.{rules}
use Rattle.records.proofs.Lengths.{view_length_lem}
use Rattle.rules.specs.Rules.{view, agreed, concluded, agreement_test}
use Rattle.row.specs.Held.{held_mut}
use Rattle.event_parts.specs.Bounds.{reach}
use Rattle.event_parts.proofs.Bounding.{start_bound}
use Rattle.event_parts.proofs.Dones.{one}
use Rattle.event_parts.proofs.Dones.{done_as, done_none, done_wrote, one_fits}
use Rattle.agree.proofs.Agreeing.{agreement_not, agreement_is}
use Rattle.agree.proofs.agreement.agreement_test.Goals.{Else-not-agreed, After-conclude}
use Rattle.agree.proofs.agreement.agreement_test.Goals as goal

met : (c : Else-not-agreed) → agreed (held_mut c.args.row.now) ≡ true
met c = rw c.get-held.ensures at (sym c.agreed.ensures ∙ c.if-not-agreed.false)

-- what the code makes is what the rule makes
made : (c : After-conclude) → agreed (held_mut c.args.row.now) ≡ true
    → one concluded (view c.view_of-view.result) (held_mut c.args.row.now) ≡ agreement_test (held_mut c.args.row.now)
made c m = agreement_is _ _ m (rw c.get-held.ensures at c.view_of-view.ensures)

pub returns-then-not-agreed : goal.returns-then-not-agreed
returns-then-not-agreed c =
    done_as agreement_test (done_none _ _)
    (agreement_not _ (rw c.get-held.ensures at (sym c.agreed.ensures ∙ c.if-not-agreed.true)))

pub view_of-view-requires : goal.view_of-view-requires
view_of-view-requires c =
    let h = start_bound reach _ c.requires.0 (met (goal.at.view_of-view-requires c).Else-not-agreed) in
    rw c.get-held.ensures (omega arith)

pub write-requires : goal.write-requires
write-requires c =
    let v = c.view_of-view.result in
    one_fits agreement_test concluded (view v) c.args.row.now c.args.out.now
    (made (goal.at.write-requires c).After-conclude (met (goal.at.write-requires c).Else-not-agreed))
    (view_length_lem 0 v (search rules)) c.requires.1

pub returns : goal.returns
returns c =
    done_wrote agreement_test (view _) c.conclude.ensures
    (made (goal.at.returns c).After-conclude (met (goal.at.returns c).Else-not-agreed)) refl c.write.ensures
