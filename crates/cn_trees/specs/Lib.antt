pub mod Consensus
pub mod Examples
pub mod FullTrees
pub mod Seats
pub mod Steps
pub mod Tree
