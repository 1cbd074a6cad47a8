pub mod PlacedWords
pub mod Soundness
pub mod CopyLemmas
pub mod Finite
pub mod Gathering
pub mod Joined
pub mod TwoProcesses
pub mod Decisions
