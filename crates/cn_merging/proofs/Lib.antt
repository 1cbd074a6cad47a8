pub mod Numbers
pub mod Refining
pub mod Merging
