pub mod Numbers
pub mod States
pub mod Steps
pub mod WithReads
