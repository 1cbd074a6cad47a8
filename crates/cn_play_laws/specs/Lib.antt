pub mod ToldRuns
