-- In the order of the modules: lacking, new_view, round_end.
pub mod Agrees
pub mod Starts
pub mod Emptied
