pub mod OneAccess
pub mod Races
pub mod Unread
