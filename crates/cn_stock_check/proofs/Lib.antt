pub mod WordLemmas
pub mod NeedLemmas
pub mod PartLemmas
pub mod StockLemmas
pub mod SetLemmas
pub mod SeenLemmas
pub mod WitnessLemmas
pub mod Firsts
