pub mod Courses
pub mod Lives
pub mod Plans
pub mod Runs
pub mod Schedules
pub mod Steps
pub mod Turns
