pub mod Counts
pub mod Halves
pub mod Known
pub mod Listed
pub mod Starts
