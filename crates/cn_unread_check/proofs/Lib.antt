pub mod Ascending
pub mod BoundLemmas
pub mod OneMerging
pub mod Verdicts
