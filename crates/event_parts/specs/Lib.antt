pub mod Did
pub mod Bounds
pub mod Parts
pub mod Wrote
pub mod Done
