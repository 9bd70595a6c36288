pub mod Days
pub mod Follows
pub mod Runs
mod Taking
pub mod Syncs
pub mod Turns
pub mod Rooms
pub mod RoomsRuns
