pub mod CommandLine
pub mod GivenCommands
pub mod Replies
