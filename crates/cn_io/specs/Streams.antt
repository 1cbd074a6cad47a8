-- Readers and writers that keep their bytes.
pub mod Reading
pub mod Writing
