pub mod Serving
pub mod Workers
