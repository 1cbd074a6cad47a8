pub mod Bounds
pub mod Merging
pub mod Reads
pub mod Solving
