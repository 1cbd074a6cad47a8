pub mod FurtherNodes
pub mod FurtherSights
pub mod Meetings
pub mod SceneLists
