-- input
pub mod Window
-- output
pub mod Room
-- progress
pub mod ProgressLaws
