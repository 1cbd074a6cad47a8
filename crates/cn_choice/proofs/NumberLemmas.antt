-- Numbers of choices, and the greatest number of processes.
pub mod Binomials
pub mod ChoiceCounts
pub mod FewerProcesses
pub mod GreatestNumbers
