pub mod Statement
pub mod Plays
