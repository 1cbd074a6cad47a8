pub mod Arguments
pub mod FaultText
pub mod Hints
pub mod Outcomes
pub mod Steps
pub mod Streams
pub mod Texts
