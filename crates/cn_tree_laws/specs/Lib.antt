pub mod TreeProtocol
