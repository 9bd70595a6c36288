-- Sheet: its records, the first bad one, a seat's first that counts
pub mod Records
pub mod Bad
pub mod First
pub mod Members
-- Answers: what an answer tells, at which exit, and which sheets answer the same
pub mod AnswerLaws
pub mod Exits
pub mod Sheets
-- Days
pub mod Days
