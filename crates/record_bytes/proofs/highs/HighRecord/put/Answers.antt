use Rattle.laws.proofs.Big.{Wrote}
use Rattle.records.specs.Layout.{high_mark, encode_high}
use Rattle.record_bytes.proofs.Putting.{wrote4}
use Rattle.record_bytes.proofs.highs.HighRecord.put.Goals as goal

pub returns : goal.returns
unfolding encode_high
returns c =
    let r = c.args.self in
    let e0 : Wrote c.args.out.now c.args.at high_mark _ = record { is = c.put.ensures } in
    let e1 = wrote4 r.number e0 c.to_be_bytes.ensures c.put-2.ensures in
    (wrote4 r.again e1 c.to_be_bytes-2.ensures c.put-3.ensures).is
