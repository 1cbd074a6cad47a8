pub mod Claims
pub mod Parts
pub mod Plain
pub mod Told
pub mod Values
pub mod Versions
pub mod WrittenBack
