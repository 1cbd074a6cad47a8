pub mod Behind
pub mod Words
pub mod Steps
pub mod Claims
