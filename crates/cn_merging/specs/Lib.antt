pub mod Alike
pub mod Merged
pub mod Numbering
pub mod Rounds
