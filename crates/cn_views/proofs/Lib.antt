pub mod OutcomePairs
pub mod SetLoops
pub mod SilentLists
pub mod Telling
