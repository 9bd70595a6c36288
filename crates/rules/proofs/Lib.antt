pub mod Days
pub mod Room
pub mod MarkFiles
pub mod Restarts
pub mod Tables
