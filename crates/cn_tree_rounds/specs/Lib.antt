pub mod Actions
pub mod Consensus
pub mod Courses
pub mod Schedules
pub mod Turns
pub mod Worlds
