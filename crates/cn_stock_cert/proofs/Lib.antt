pub mod Parts
pub mod Plain
pub mod Values
pub mod Versions
pub mod WrittenBack
pub mod Lasts
pub mod Bounds
