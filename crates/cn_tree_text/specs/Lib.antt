pub mod Dot
pub mod Places
pub mod Promela
pub mod Steps
pub mod Text
