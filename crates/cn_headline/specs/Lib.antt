pub mod ConsensusNumber
pub mod Headline
