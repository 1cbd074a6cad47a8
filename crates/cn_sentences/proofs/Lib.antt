mod CellLemmas
mod Rows
