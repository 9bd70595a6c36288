-- views
pub mod Views
-- checks
pub mod SeatChecks
-- making and hearing
pub mod Hearing
-- syncing
pub mod Syncing
-- a desk with its rooms
pub mod Rooms
