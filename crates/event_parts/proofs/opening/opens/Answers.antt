use mathlib.Core.Path.{◌≡◌, refl}
use Rattle.records.specs.declared.Notice.{Notice}
use Rattle.records.proofs.Lengths.{notice_length_lem}
use Rattle.rules.specs.State.{with_start}
use Rattle.rules.specs.Rules.{notice, opens}
use Rattle.row.specs.Held.{held_mut}
use Rattle.event_parts.proofs.Dones.{one}
use Rattle.event_parts.proofs.Dones.{done_wrote, one_fits}
use Rattle.event_parts.proofs.Made.{opens_is}
use Rattle.event_parts.proofs.opening.opens.Goals.{After-set_start}
use Rattle.event_parts.proofs.opening.opens.Goals as goal

abbrev noted : After-set_start → Notice
noted c = record { start = c.max-start.result; members = c.net-members.result }

-- what the code makes is what the rule makes
made : (c : After-set_start)
    → one (with_start c.max-start.result) (notice (noted c)) (held_mut c.args.row.now)
    ≡ opens (held_mut c.args.row.now)
made c =
    let e = c.get-held.ensures in
    opens_is _ _ _
    (rw (← (rw e at c.view_number.ensures), ← (rw e at c.start.ensures)) c.max-start.ensures)
    (rw e at c.net-members.ensures)

pub write-requires : goal.write-requires
write-requires c =
    let n = (goal.at.write-requires c).After-set_start in
    one_fits opens (with_start n.max-start.result) _ c.args.row.now c.args.out.now (made n)
    (notice_length_lem 0 (noted n)) c.requires.1

pub returns : goal.returns
returns c =
    done_wrote opens _ c.set_start.ensures (made (goal.at.returns c).After-set_start) refl c.write.ensures
