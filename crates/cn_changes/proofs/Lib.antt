pub mod Ranges
pub mod Known
pub mod Sharing
pub mod Zipped
pub mod Cutting
pub mod ToldKnown
