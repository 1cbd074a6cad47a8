pub mod FlawPath
pub mod FlawText
pub mod Flaws
pub mod Notes
