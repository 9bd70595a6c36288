-- SeatSet: its laws; and its functions by shifts and masks.
pub mod Laws
mod SeatBits
-- offices: their laws; and its functions by shifts and masks.
pub mod OfficeLaws
pub mod Counts
mod Gathering
mod OfficeBits
-- Loops of callers through a set of offices.
pub mod OfficeLoops
