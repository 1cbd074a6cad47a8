pub mod Bits
pub mod EarlyPairs
pub mod LeftStates
pub mod PairSets
pub mod RowSettings
pub mod Subsets
pub mod Twins
