-- The laws, in the order of the modules that they serve: lacking, new_view (claims names these), round_end, agreement.
mod Looking
pub mod Laying
mod Emptying
mod Agreeing
