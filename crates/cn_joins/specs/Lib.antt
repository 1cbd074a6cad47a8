pub mod Joins
pub mod Evidence
