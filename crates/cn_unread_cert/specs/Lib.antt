pub mod Certificate
pub mod FaultText
pub mod Kept
pub mod Kinds
pub mod Reading
pub mod Right
pub mod UnreadText
