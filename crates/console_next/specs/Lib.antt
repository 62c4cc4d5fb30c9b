pub mod Answers
pub mod Calls
pub mod Orders
pub mod Replies
pub mod Sessions
