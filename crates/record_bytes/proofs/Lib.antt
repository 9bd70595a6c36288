-- bytes
pub mod Putting
-- own_checks
pub mod OwnMark
