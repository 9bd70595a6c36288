pub mod Big
pub mod Bit
pub mod Checks
pub mod Fin
pub mod Lowest
pub mod Tab
pub mod Upd
pub mod Lists
