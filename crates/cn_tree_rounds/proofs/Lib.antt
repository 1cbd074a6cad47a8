pub mod Lists
pub mod TeamCounts
pub mod Storing
pub mod Keeping
pub mod Stepping
pub mod Schedules
pub mod Deciding
pub mod Telling
