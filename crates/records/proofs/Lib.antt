-- layout
pub mod Lengths
pub mod RoundTrip
-- checks
pub mod CheckLaws
pub mod OwnChecks
-- numbers
pub mod NumberLaws
-- run
pub mod RunLaws
pub mod Growing
-- what the writers of record_bytes leave
pub mod Placing
