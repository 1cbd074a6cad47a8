pub mod Evidence
pub mod Finding
