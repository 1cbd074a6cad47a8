pub mod Reached
pub mod Steps
pub mod Crossing
pub mod Marks
pub mod Renaming
