pub mod Agreeing
pub mod Bounds
pub mod BoundsText
pub mod Evidence
pub mod Steps
