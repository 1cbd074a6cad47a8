pub mod GateLemmas
pub mod NamedTableLemmas
