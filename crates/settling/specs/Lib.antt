pub mod Statement
pub mod Scenarios
