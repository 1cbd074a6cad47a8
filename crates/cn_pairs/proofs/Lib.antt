pub mod SetLists
pub mod Firsts
pub mod FirstSets
pub mod OneNumber
pub mod WholeSets
pub mod MoreOperations
pub mod Between
