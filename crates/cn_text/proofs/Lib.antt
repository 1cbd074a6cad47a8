mod Behind
mod FoldLemmas
mod FoldedPieces
mod Numbered
mod RowWidths
mod Widths
