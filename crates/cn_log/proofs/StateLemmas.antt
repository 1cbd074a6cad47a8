-- The fields of a log, after each event.
pub mod AtomicEvents
pub mod Faults
pub mod Fields
pub mod Steps
