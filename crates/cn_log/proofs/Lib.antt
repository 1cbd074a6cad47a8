pub mod BoundLemmas
pub mod CallerLemmas
pub mod InvariantLemmas
pub mod ListLemmas
pub mod StateLemmas
