use mathlib.Core.Path.{◌≡◌}
use lib.ListN.{length}
use Rattle.records.proofs.Lengths.{proposal_length_lem}
use Rattle.record_bytes.proofs.proposals.InRoomProposalRecord.size.Goals.{Start}
use Rattle.record_bytes.proofs.proposals.InRoomProposalRecord.size.Goals as goal

-- the length of the array that is a field of the record
array_len : (c : Start) → length c.args.self.«record».used ≡ 16
array_len c = c.well_formed.0.1.1.1.0.1.1.1.1.1.1.1.0.1.0.1

pub returns-clause-whole : goal.returns-clause-whole
returns-clause-whole c = proposal_length_lem c.args.self.room c.args.self.«record» (array_len c)
