-- sheet_pass
pub mod Pass
-- the answer, in lib.rt
pub mod Found
