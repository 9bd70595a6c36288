use mathlib.Core.List.{[], ◌∷◌}
use Rattle.laws.proofs.Big.{Wrote, wrote_then}
use Rattle.records.specs.Layout.{sync_mark, encode_sync}
use Rattle.record_bytes.proofs.Putting.{wrote4}
use Rattle.record_bytes.proofs.syncs.SyncRecord.put.Goals as goal

pub returns : goal.returns
unfolding encode_sync
returns c =
    let r = c.args.self in
    let e0 : Wrote c.args.out.now c.args.at sync_mark _ = record { is = c.put.ensures } in
    let e1 = wrote_then (r.seat ∷ []) e0 c.put-2.ensures in
    let e2 = wrote4 r.start e1 c.to_be_bytes.ensures c.put-3.ensures in
    (wrote4 r.previous e2 c.to_be_bytes-2.ensures c.put-4.ensures).is
