pub mod InRoom
