pub mod Orders
pub mod Tellings
pub mod Witnesses
pub mod Finest
pub mod Parts
pub mod Examples
pub mod Renaming
