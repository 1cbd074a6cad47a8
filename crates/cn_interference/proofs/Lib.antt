pub mod ThirdProcess
pub mod PairLists
pub mod TwoProcesses
pub mod RuleLemmas
