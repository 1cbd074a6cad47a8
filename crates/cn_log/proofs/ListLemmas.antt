-- Lists of events, of entries and of batches.
pub mod BatchEntries
pub mod BatchMembers
pub mod EntryLists
pub mod EntryPositions
pub mod EventLists
pub mod NextMembers
pub mod OwnEntries
pub mod OwnLists
pub mod Places
