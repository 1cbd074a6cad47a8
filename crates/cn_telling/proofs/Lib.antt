pub mod ArrayLemmas
pub mod CandidateLemmas
pub mod CellLemmas
pub mod JoinLemmas
pub mod LevelLemmas
pub mod NextLemmas
pub mod TellLemmas
pub mod RowLemmas
