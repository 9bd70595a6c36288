-- answering
mod AnsweringLaws
-- turning
mod TurningLaws
-- the crate's root: a table made, the loop, and the whole text
mod MadeLaws
pub mod Whole
