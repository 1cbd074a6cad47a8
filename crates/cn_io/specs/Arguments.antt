-- Arguments that are read from their texts.
pub mod Calls
pub mod Events
pub mod Files
pub mod Lists
pub mod Lives
pub mod Operations
