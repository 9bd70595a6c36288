use mathlib.Core.List.{[], ◌∷◌}
use Rattle.laws.specs.Big.{bytes_all}
use Rattle.laws.proofs.Big.{Wrote, wrote_then}
use Rattle.records.specs.Layout.{view_mark, encode_view}
use Rattle.record_bytes.proofs.Putting.{wrote4, wrote8}
use Rattle.record_bytes.proofs.views.InRoomViewRecord.put.Goals as goal

pub returns : goal.returns
unfolding encode_view
returns c =
    let r = c.args.self.«record» in
    let e0 : Wrote c.args.out.now c.args.at view_mark _ = record { is = c.put.ensures } in
    let e1 = wrote_then (c.args.self.room ∷ []) e0 c.put-2.ensures in
    let e2 = wrote4 r.number e1 c.to_be_bytes.ensures c.put-3.ensures in
    let e3 = wrote8 r.members.bits e2 c.to_be_bytes-2.ensures c.put-4.ensures in
    (wrote_then (bytes_all r.starts) e3 c.put_sixteen.ensures).is
