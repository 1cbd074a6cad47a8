pub mod Exchange
pub mod FirstPlans
pub mod Fitting
pub mod Planning
pub mod Running
pub mod Telling
