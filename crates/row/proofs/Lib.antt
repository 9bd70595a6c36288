-- The laws, in the order of the modules that they serve: readers; form and checks; changes and slots; the crates
-- above.
pub mod Parts
pub mod Presence
pub mod Low
mod Stretches
mod Kept
pub mod StoreLaws
pub mod OwnKept
pub mod Words
pub mod ModeTests
pub mod Holds
pub mod Tables
mod Chunks
