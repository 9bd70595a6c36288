pub mod Digits
pub mod Text
pub mod Lengths
pub mod Put
pub mod Added
pub mod Lines
