-- Arguments.
pub mod Calls
pub mod Events
pub mod Files
pub mod Lives
pub mod Numbers
pub mod Operations
pub mod ShortEvents
