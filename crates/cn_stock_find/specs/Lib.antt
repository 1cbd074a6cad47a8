pub mod LeastSets
pub mod Found
