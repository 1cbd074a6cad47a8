pub mod Certificate
pub mod FaultText
pub mod Kinds
pub mod Reading
pub mod TreeText
