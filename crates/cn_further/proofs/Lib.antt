pub mod AllSights
pub mod Kept
pub mod KnownSights
pub mod Listed
pub mod Meets
pub mod ReachedScenes
pub mod Steps
