pub mod Recording
pub mod Rows
pub mod StatesApart
