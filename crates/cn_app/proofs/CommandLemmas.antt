-- Commands.
pub mod Calls
pub mod Lists
pub mod Reports
pub mod SeveralTables
pub mod Verdicts
