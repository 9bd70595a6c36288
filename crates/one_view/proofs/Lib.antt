pub mod Left
pub mod Held
pub mod OneView
pub mod UsedOnce
pub mod Plays
