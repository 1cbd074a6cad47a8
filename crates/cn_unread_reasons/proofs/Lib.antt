pub mod EachOnce
pub mod Explained
pub mod Fits
pub mod FurtherTold
pub mod SignsTold
