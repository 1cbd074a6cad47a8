pub mod Made
pub mod Told
