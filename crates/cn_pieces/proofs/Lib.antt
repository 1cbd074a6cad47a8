pub mod Ends
pub mod Ranges
