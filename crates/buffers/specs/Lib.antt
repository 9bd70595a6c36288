pub mod Room
pub mod Place
pub mod Progress
