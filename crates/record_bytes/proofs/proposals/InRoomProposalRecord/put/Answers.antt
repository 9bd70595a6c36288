use mathlib.Core.List.{[], ◌∷◌}
use Rattle.laws.specs.Big.{bytes_all}
use Rattle.laws.proofs.Big.{Wrote, wrote_then}
use Rattle.records.specs.Layout.{proposal_mark, encode_proposal}
use Rattle.record_bytes.proofs.Putting.{wrote4, wrote8}
use Rattle.record_bytes.proofs.proposals.InRoomProposalRecord.put.Goals as goal

pub returns : goal.returns
unfolding encode_proposal
returns c =
    let r = c.args.self.«record» in
    let e0 : Wrote c.args.out.now c.args.at proposal_mark _ = record { is = c.put.ensures } in
    let e1 = wrote_then (c.args.self.room ∷ []) e0 c.put-2.ensures in
    let e2 = wrote_then (r.sender ∷ []) e1 c.put-3.ensures in
    let e3 = wrote_then (r.kind ∷ []) e2 c.put-4.ensures in
    let e4 = wrote8 r.members.bits e3 c.to_be_bytes.ensures c.put-5.ensures in
    let e5 = wrote4 r.start e4 c.to_be_bytes-2.ensures c.put-6.ensures in
    let e6 = wrote4 r.number e5 c.to_be_bytes-3.ensures c.put-7.ensures in
    (wrote_then (bytes_all r.used) e6 c.put_sixteen.ensures).is
