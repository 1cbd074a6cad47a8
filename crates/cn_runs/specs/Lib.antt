pub mod Plays
pub mod Races
pub mod Runs
pub mod Steps
pub mod StickyBit
pub mod TestAndSet
pub mod ThreeShot
pub mod ToldPlays
