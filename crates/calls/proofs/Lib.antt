-- office, questions
mod Called
mod ReportFits
-- desks
pub mod InDeskWords
-- along
mod AlongWords
-- restarts
mod RestartNumbers
