pub mod CallLists
pub mod ClosedLogs
pub mod Places
pub mod Seats
pub mod Served
