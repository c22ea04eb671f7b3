pub mod Seeds
pub mod Commands
pub mod Answers
