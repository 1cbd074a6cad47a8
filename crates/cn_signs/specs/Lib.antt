pub mod SignChecks
pub mod SignChoices
pub mod StateSets
