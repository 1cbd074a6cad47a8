pub mod Firsts
pub mod Loops
pub mod Seats
