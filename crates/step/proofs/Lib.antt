-- The laws, in the order of the modules that they serve: checks, making, refusals, acting and dispatch, the acting
-- call and the step, held, the crates above.
mod Readiness
pub mod FreshTables
mod Within
mod Lowness
mod Refusal
pub mod Exits
mod Unready
pub mod HeldLaws
pub mod Holds
