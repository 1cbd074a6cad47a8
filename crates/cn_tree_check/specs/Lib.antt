pub mod Faults
pub mod FaultText
pub mod Heads
pub mod Right
pub mod Sizes
