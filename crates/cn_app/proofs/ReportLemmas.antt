-- The reports of the commands.
pub mod FoundCertificates
pub mod Numbers
pub mod ShortestPlans
pub mod Words
