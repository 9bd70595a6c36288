use mathlib.Core.List.{[], ◌∷◌}
use Rattle.laws.proofs.Big.{Wrote, wrote_then}
use Rattle.records.specs.Layout.{report_mark, encode_report}
use Rattle.record_bytes.proofs.Putting.{wrote8}
use Rattle.record_bytes.proofs.reports.InRoomReportRecord.put.Goals as goal

pub returns : goal.returns
unfolding encode_report
returns c =
    let r = c.args.self.«record» in
    let e0 : Wrote c.args.out.now c.args.at report_mark _ = record { is = c.put.ensures } in
    let e1 = wrote_then (c.args.self.room ∷ []) e0 c.put-2.ensures in
    let e2 = wrote8 r.joining.bits e1 c.to_be_bytes.ensures c.put-3.ensures in
    (wrote8 r.leaving.bits e2 c.to_be_bytes-2.ensures c.put-4.ensures).is
