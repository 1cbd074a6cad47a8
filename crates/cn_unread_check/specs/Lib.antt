pub mod Bounds
pub mod FaultText
pub mod Faults
