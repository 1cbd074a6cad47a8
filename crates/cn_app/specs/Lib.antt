pub mod Answers
pub mod Commands
pub mod Forms
pub mod Lines
pub mod PlanStyles
pub mod Runs
