-- number
pub mod Number
-- office
pub mod OfficeCalls
-- waits
pub mod WaitingCalls
-- desks
pub mod DeskWords
-- along
pub mod AlongWord
-- restarts
pub mod RestartCalls
