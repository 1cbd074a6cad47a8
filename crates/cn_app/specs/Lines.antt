-- The lines of a service.
pub mod Threads
