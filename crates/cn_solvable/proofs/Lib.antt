pub mod ConsensusNumbers
pub mod Mirroring
pub mod OneProcess
pub mod Plans
pub mod Rounds
pub mod WitnessProtocols
