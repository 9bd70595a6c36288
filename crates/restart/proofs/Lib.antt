-- marks, and what a file answers
mod Passing
pub mod Answers
-- restarting, and what the words hold then
pub mod RestartTables
-- leaving
mod Largest
mod Exits
mod Cases
-- what the call reads of the bytes of an answer
pub mod Front
-- what a caller makes of them
pub mod Caller
