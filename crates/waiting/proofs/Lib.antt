pub mod Laws
pub mod Days
