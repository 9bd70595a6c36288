pub mod Marks
pub mod Restart
pub mod Before
pub mod Caller
