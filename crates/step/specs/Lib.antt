pub mod Answers
pub mod Checks
pub mod Fresh
pub mod Step
pub mod Held
