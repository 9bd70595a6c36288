-- The laws of the definitions in specs/.
pub mod Big
pub mod Bit
pub mod Checks
pub mod Cuts
pub mod Fin
pub mod Grid
pub mod Loops
pub mod Lowest
pub mod Seqs
pub mod Tab
pub mod Upd
pub mod Lists
