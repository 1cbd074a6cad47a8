mod Counted
mod FewTeams
mod Growing
pub mod Loads
pub mod Numbers
mod LeastExamples
mod Outlines
mod Joining
mod NodesOf
mod Regrouping
mod Splitting
pub mod Steps
mod SubTrees
mod Tables
mod Witnesses
