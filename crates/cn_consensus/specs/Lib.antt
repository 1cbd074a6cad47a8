pub mod Configuration
pub mod Consensus
pub mod Protocol
pub mod Types
pub mod Valence
pub mod WaitFreedom
