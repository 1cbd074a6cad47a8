pub mod LastingStarts
pub mod ReachedStates
pub mod Parts
