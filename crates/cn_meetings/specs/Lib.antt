pub mod Choices
pub mod Division
pub mod Examples
pub mod Meeting
pub mod Parting
pub mod Sights
pub mod Witness
