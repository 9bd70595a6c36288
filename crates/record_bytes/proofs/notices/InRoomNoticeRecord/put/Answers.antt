use mathlib.Core.List.{[], ◌∷◌}
use Rattle.laws.proofs.Big.{Wrote, wrote_then}
use Rattle.records.specs.Layout.{notice_mark, encode_notice}
use Rattle.record_bytes.proofs.Putting.{wrote4, wrote8}
use Rattle.record_bytes.proofs.notices.InRoomNoticeRecord.put.Goals as goal

pub returns : goal.returns
unfolding encode_notice
returns c =
    let r = c.args.self.«record» in
    let e0 : Wrote c.args.out.now c.args.at notice_mark _ = record { is = c.put.ensures } in
    let e1 = wrote_then (c.args.self.room ∷ []) e0 c.put-2.ensures in
    let e2 = wrote4 r.start e1 c.to_be_bytes.ensures c.put-3.ensures in
    (wrote8 r.members.bits e2 c.to_be_bytes-2.ensures c.put-4.ensures).is
