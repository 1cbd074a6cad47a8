pub mod Execution
pub mod InfiniteExecutions
pub mod RecoverableConsensus
pub mod RecoverableConsensusNumber
pub mod RecoverableRound
pub mod RecoverableWaitFreedom
