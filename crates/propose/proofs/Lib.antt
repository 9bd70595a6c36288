-- The laws, in the order of the modules that they serve: slow_call, slow_look, slow_test.
mod Calls
mod Looks
mod SlowCases
