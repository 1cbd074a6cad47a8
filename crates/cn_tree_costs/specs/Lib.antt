pub mod Branches
pub mod Cost
pub mod Least
pub mod Nodes
pub mod Outline
pub mod Sizes
