-- Readers and writers that keep their bytes.
pub mod KnownBytes
pub mod Reads
pub mod Texts
pub mod Unread
