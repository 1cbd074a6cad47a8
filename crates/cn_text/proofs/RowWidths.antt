-- The width of a column, one row after another.
use Rattle.std.proofs.Common.{◌≡◌, ℕ, zero, suc, ◌+◌, ◌<◌, List, [], ◌∷◌, arith, get_or, length, max, take}
use Rattle.std.specs.Prelude.{String, Vec}
use Rattle.std.specs.declared.alloc.Global.{Global}
use Rattle.cn_table.specs.DraftView.{texts_view}
use Rattle.cn_sentences.specs.Triangle.{rows_of}
use Rattle.cn_text.specs.Columns.{text_at}
use Rattle.cn_text.specs.PairLines.{width}

width_suc : (rows : List (Vec (String Global) Global)) (column k : ℕ) (row : Vec (String Global) Global) → k < length rows → row ≡ get_or rows k row
    → width (rows_of (take (suc k) rows)) column ≡ max (width (rows_of (take k rows)) column) (length (text_at (texts_view row) column))
width_suc [] column k row l is = absurd (omega (arith, l))
width_suc (r ∷ rows) column zero row l is = rw is (omega arith)
width_suc (r ∷ rows) column (suc k) row l is = let rest = width_suc rows column k row (omega (arith, l)) is in omega (arith, rest)

-- one row more
pub width_more : (rows : List (Vec (String Global) Global)) (column k : ℕ) (row : Vec (String Global) Global) → k < length rows → row ≡ get_or rows k row
    → width (rows_of (take (k + 1) rows)) column ≡ max (width (rows_of (take k rows)) column) (length (text_at (texts_view row) column))
width_more rows column k row l is = let next : k + 1 ≡ suc k = omega arith in rw next (width_suc rows column k row l is)
