pub mod RankedStates
pub mod Rows
pub mod Sets
pub mod Theorem
pub mod Walks
