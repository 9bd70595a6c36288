-- The values that fit the fields of the six records.
use Rattle.std.specs.Prelude.{◌≡◌, List, ℕ, ◌<◌, ◌^◌, length}
use Rattle.laws.specs.Big.{Below}
use Rattle.records.specs.declared.Report.{Report}
use Rattle.records.specs.declared.Proposal.{Proposal}
use Rattle.records.specs.declared.Notice.{Notice}
use Rattle.records.specs.declared.View.{View}
use Rattle.records.specs.declared.Sync.{Sync}
use Rattle.records.specs.declared.High.{High}

-- sixteen numbers of four bytes each
pub record FitsSixteen (l : List ℕ) : Type 0 where
  pub count : length l ≡ 16
  pub each : Below (2 ^ 32) l

pub record FitsReport (r : Report) : Type 0 where
  pub joining : r.joining.bits < 2 ^ 64
  pub leaving : r.leaving.bits < 2 ^ 64

pub record FitsProposal (p : Proposal) : Type 0 where
  pub sender : p.sender < 256
  pub kind : p.kind < 256
  pub members : p.members.bits < 2 ^ 64
  pub start : p.start < 2 ^ 32
  pub number : p.number < 2 ^ 32
  pub used : FitsSixteen p.used

pub record FitsNotice (n : Notice) : Type 0 where
  pub start : n.start < 2 ^ 32
  pub members : n.members.bits < 2 ^ 64

pub record FitsView (v : View) : Type 0 where
  pub number : v.number < 2 ^ 32
  pub members : v.members.bits < 2 ^ 64
  pub starts : FitsSixteen v.starts

pub record FitsSync (r : Sync) : Type 0 where
  pub seat : r.seat < 256
  pub start : r.start < 2 ^ 32
  pub previous : r.previous < 2 ^ 32

pub record FitsHigh (h : High) : Type 0 where
  pub number : h.number < 2 ^ 32
  pub again : h.again < 2 ^ 32
