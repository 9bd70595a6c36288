use native.Mathlib.Omega.{arith}
use Rattle.event_parts.proofs.Dones.{moved_then, moved_as}
use Rattle.event_parts.proofs.Made.{kept_own, own_sender}
use Rattle.propose.proofs.own_proposals.keep_own.Goals as goal

pub put_stored-requires : goal.put_stored-requires
put_stored-requires c =
    let e = own_sender _ _ _ c.args.p c.requires in
    let l = c.args.row.now.office in
    rw c.from.ensures (omega arith)

pub returns : goal.returns
returns c =
    moved_as _ (moved_then (moved_then c.put_stored.ensures c.set_number.ensures)
    c.set_mode.ensures)
    (rw c.from.ensures (kept_own _ _ _ c.args.p c.requires))
