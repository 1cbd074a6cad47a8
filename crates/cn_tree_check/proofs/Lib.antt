pub mod HeadLemmas
pub mod MakerLemmas
pub mod RangeLemmas
pub mod RightLemmas
