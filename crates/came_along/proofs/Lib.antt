-- checks
mod Reading
-- sheet_pass
mod Counting
mod Passing
-- the answer, in lib.rt
mod Exits
