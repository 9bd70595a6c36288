-- checks
mod Reasons
-- making and hearing
pub mod Refusals
pub mod HearingLaws
pub mod Accepted
pub mod Taken
-- syncing
pub mod SyncLaws
-- a desk with its rooms
pub mod RoomsLaws
