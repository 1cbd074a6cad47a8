pub mod LastingLemmas
pub mod FindLemmas
