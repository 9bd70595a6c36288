pub mod Roomed
pub mod Handing
pub mod Server
pub mod RoomWorld
pub mod RoomFiles
pub mod Projection
pub mod Statement
