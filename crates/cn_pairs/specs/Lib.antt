pub mod Sublists
pub mod Firsts
pub mod SetNumbers
pub mod Smallest
