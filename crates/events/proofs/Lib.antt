-- what bytes are read as, at each exit of the reading call
pub mod ReadLaws
