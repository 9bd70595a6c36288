-- For layout: the lengths of the six records.
use mathlib.Core.Path.{◌≡◌, refl}
use native.Mathlib.Omega.{arith}
use Prim.Native.Nat.{ℕ}
use lib.ListN.{length}
use Rattle.laws.proofs.Big.{length_all}
use Rattle.records.specs.declared.Report.{Report}
use Rattle.records.specs.declared.Proposal.{Proposal}
use Rattle.records.specs.declared.Notice.{Notice}
use Rattle.records.specs.declared.View.{View}
use Rattle.records.specs.declared.Sync.{Sync}
use Rattle.records.specs.declared.High.{High}
use Rattle.records.specs.Layout.{encode_report, encode_proposal, encode_notice, encode_view, encode_sync, encode_high}
use Rattle.records.specs.Layout.{report_length, proposal_length, notice_length, view_length, sync_length, high_length}

pub report_length_lem : (room : ℕ) (r : Report) → length (encode_report room r) ≡ report_length
unfolding encode_report
report_length_lem room r = refl

pub proposal_length_lem : (room : ℕ) (p : Proposal) → length p.used ≡ 16 → length (encode_proposal room p) ≡ proposal_length
unfolding encode_proposal
proposal_length_lem room p h = let e = length_all p.used in omega arith

pub notice_length_lem : (room : ℕ) (n : Notice) → length (encode_notice room n) ≡ notice_length
unfolding encode_notice
notice_length_lem room n = refl

pub view_length_lem : (room : ℕ) (v : View) → length v.starts ≡ 16 → length (encode_view room v) ≡ view_length
unfolding encode_view
view_length_lem room v h = let e = length_all v.starts in omega arith

pub sync_length_lem : (r : Sync) → length (encode_sync r) ≡ sync_length
unfolding encode_sync
sync_length_lem r = refl

pub high_length_lem : (h : High) → length (encode_high h) ≡ high_length
unfolding encode_high
high_length_lem h = refl
