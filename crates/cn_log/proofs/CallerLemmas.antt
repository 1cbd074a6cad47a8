-- The calls of a process, and its knowledge.
pub mod CallCounts
pub mod Knowledge
pub mod OwnCalls
