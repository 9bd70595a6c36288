-- The step on the bytes of a record: the act on that record.
use mathlib.Core.Path.{◌≡◌, refl, ap}
use Prim.Native.Nat.{ℕ, ◌≤◌}
use native.Mathlib.Omega.{arith}
use lib.ListN.{length}
use borrow.Author.Tests.{le-ltb}
use Rattle.records.specs.Layout.{mark_of, encode_report, encode_proposal, decode_proposal}
use Rattle.records.specs.Fits.{FitsReport}
use Rattle.records.proofs.RoundTrip.{report_back}
use Rattle.records.specs.declared.Report.{Report}
use Rattle.records.specs.declared.Proposal.{Proposal}
use Rattle.rules.specs.Refusals.{a_report, a_proposal, event_of}

mark_proposal : (room : ℕ) (p : Proposal) → mark_of (encode_proposal room p) ≡ 0x5052
unfolding mark_of encode_proposal
mark_proposal room p = let two : 2 ≤ length (encode_proposal room p) = omega arith in
    rw (le-ltb (length (encode_proposal room p)) 2 two)

pub report_event : (room : ℕ) (r : Report) → FitsReport r → event_of (encode_report room r) ≡ a_report r
unfolding event_of mark_of encode_report
report_event room r f = ap a_report (report_back room r f)

-- any proposal, as its bytes are read; its sender stays
pub proposal_event : (room : ℕ) (p : Proposal)
    → event_of (encode_proposal room p) ≡ a_proposal (decode_proposal (encode_proposal room p))
unfolding event_of
proposal_event room p = rw (mark_proposal room p)

pub sender_stays : (room : ℕ) (p : Proposal) → (decode_proposal (encode_proposal room p)).sender ≡ p.sender
unfolding decode_proposal encode_proposal
sender_stays room p = refl
