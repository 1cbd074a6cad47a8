pub mod Carrying
pub mod Picked
pub mod Deciding
pub mod CopyLemmas
pub mod FirstLemmas
