-- Spaces as pieces of texts.
use Rattle.std.specs.Prelude.{ℕ, ◌-◌, List, length, replicate}

-- this number of spaces; the code of a space is 32
abbrev pub spaces : ℕ → List ℕ
spaces n = replicate n 32

-- the spaces that fill a cell up to a width
abbrev pub padding : ℕ → List ℕ → List ℕ
padding width cell = spaces (width - length cell)
