-- The invariant of every event, and what follows from it.
pub mod Bypasses
pub mod Invariant
pub mod Invocations
pub mod Linearization
pub mod Looks
pub mod Notes
pub mod RoundSteps
pub mod Rounds
