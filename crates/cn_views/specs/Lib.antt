pub mod LookTables
pub mod SilentOperations
pub mod VisibleChoices
