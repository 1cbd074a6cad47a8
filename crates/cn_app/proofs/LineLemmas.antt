-- The lines of a log.
pub mod Log
pub mod Threads
