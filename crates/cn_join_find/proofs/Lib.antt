pub mod ReachLemmas
pub mod WordLemmas
pub mod StepLemmas
pub mod CrossLemmas
pub mod MarkLemmas
pub mod SearchLemmas
pub mod WitnessLemmas
pub mod RenameLemmas
