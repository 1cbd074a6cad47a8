pub mod FlawLemmas
pub mod FlawLaws
pub mod PlainTexts
pub mod PlainFlaws
pub mod NoteLemmas
