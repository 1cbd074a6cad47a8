pub mod Consensus
pub mod Executions
pub mod Mirrors
