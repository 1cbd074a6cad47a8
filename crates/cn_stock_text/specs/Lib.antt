pub mod Known
pub mod Names
pub mod Joins
pub mod Most
pub mod Lasting
pub mod Witness
pub mod Explanation
