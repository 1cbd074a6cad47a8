pub mod Interference
pub mod Pairs
pub mod Rules
