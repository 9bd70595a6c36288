-- The laws of lib.
mod Answers
