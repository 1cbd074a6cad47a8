pub mod BitSets
pub mod EarlyPairs
pub mod Exchange
pub mod LastAnswers
pub mod LastProcess
pub mod MemberLemmas
pub mod Packing
pub mod Unions
