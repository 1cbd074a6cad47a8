pub mod Boards
pub mod InOrder
pub mod TrapLists
