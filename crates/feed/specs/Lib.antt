pub mod Made
pub mod TurnReady
pub mod Session
pub mod Answered
pub mod Turn
pub mod Whole
pub mod Steps
