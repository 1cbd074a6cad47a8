pub mod Executions
pub mod Mirroring
pub mod Reaching
pub mod Rightness
