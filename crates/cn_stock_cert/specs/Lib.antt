pub mod LastingSets
pub mod Certificate
pub mod StockText
pub mod Kinds
pub mod Reading
pub mod FaultText
pub mod Right
