-- Operations that last.
pub mod Counts
pub mod Forms
pub mod Pigeons
pub mod Always
pub mod Closing
pub mod Growth
pub mod Numbers
pub mod SetSizes
