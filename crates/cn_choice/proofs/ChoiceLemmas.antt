-- Choices, one after the other.
pub mod BlockWalk
pub mod Blocks
pub mod CanonicalCover
pub mod CanonicalForms
pub mod Embeddings
pub mod Inverses
pub mod ListOrder
pub mod ListedChoices
pub mod LiveChoices
