-- the question and its answer
pub mod Sheet
-- what an answer tells
pub mod Answers
-- worked sheets
pub mod Days
