pub mod Waiting
pub mod Days
