pub mod CommandLemmas
pub mod LineLemmas
pub mod ReportLemmas
pub mod RunLemmas
