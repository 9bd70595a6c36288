-- The laws, in the order of the modules that they serve: opening and every later part; the crates above.
mod Writing
mod Appended
pub mod Dones
pub mod Made
pub mod Bounding
