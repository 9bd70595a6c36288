pub mod Events
pub mod Reading
