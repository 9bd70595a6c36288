pub mod Modes
pub mod Row
pub mod Changes
pub mod Table
pub mod Held
pub mod Moved
