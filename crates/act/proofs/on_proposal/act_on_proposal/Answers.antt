use native.Mathlib.Omega.{arith}
use mathlib.Core.Path.{◌≡◌, sym, ◌∙◌}
use borrow.Author.Tests.{not-true, not-false}
use Rattle.rules.specs.Rules.{tests, proposal_rule}
use Rattle.records.specs.Numbers.{limit}
use Rattle.rules.specs.Refusals.{a_proposal}
use Rattle.row.specs.Held.{held_mut}
use Rattle.event_parts.specs.Bounds.{early}
use Rattle.event_parts.specs.Parts.{receiving}
use Rattle.event_parts.proofs.Bounding.{well_bounded, received_bounded, bounded_le}
use Rattle.event_parts.proofs.Dones.{done_as, done_after, done_quiet, event_room}
use Rattle.act.proofs.on_proposal.Outcomes.{proposal_other, proposal_same}
use Rattle.act.proofs.on_proposal.act_on_proposal.Goals.{Else-ne}
use Rattle.act.proofs.on_proposal.act_on_proposal.Goals as goal

-- the members are the net view
same : (c : Else-ne)
    → tests (receiving c.args.p (held_mut c.args.row.now)) ≡ proposal_rule (held_mut c.args.row.now) c.args.p
same c =
    proposal_same (held_mut c.args.row.now) c.args.p _ (rw c.get.ensures at c.net-net.ensures)
    (not-false _ (sym c.ne.ensures ∙ c.if-ne.false))

pub returns-then-ne : goal.returns-then-ne
returns-then-ne c =
    done_as (λ u. proposal_rule u c.args.p) (done_quiet _ c.receive.ensures)
    (proposal_other (held_mut c.args.row.now) c.args.p _ (rw c.get.ensures at c.net-net.ensures)
    (not-true _ (sym c.ne.ensures ∙ c.if-ne.true)))

pub tests-requires : goal.tests-requires
tests-requires c =
    let a = c.args in
    let s = held_mut a.row.now in
    let b = c.requires.sender_bound in
    let d = c.receive.ensures.changed.is in (
      rw d (bounded_le limit _ (received_bounded limit s (well_bounded s c.requires.row.0) a.p b.1 b.2) early
          (omega arith)),
      event_room tests s c.receive.new.row (a_proposal a.p) a.out.now
          (rw d (same (goal.at.tests-requires c).Else-ne)) c.requires.row.1,
    )

pub returns : goal.returns
returns c =
    done_as (λ u. proposal_rule u c.args.p) (done_after c.receive.ensures c.tests.ensures)
    (same (goal.at.returns c).Else-ne)
