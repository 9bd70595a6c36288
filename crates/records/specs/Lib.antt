pub mod Refusals
pub mod Kinds
pub mod Layout
pub mod Fits
pub mod Write
pub mod Numbers
pub mod Run
