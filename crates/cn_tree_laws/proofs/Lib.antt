pub mod Mirroring
pub mod Protocols
pub mod Parting
