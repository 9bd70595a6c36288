pub mod Sent
pub mod Rooms
pub mod Syncs
pub mod Days
pub mod RoomsSent
