-- digits
mod Decimals
mod DigitPuts
-- Text
mod Addeds
-- lines
pub mod LineLaws
pub mod RoomLaws
-- the example of document 01
pub mod Example
