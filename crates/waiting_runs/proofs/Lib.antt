mod Awaits
pub mod Runs
