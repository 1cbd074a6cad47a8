-- Texts that are put together of a piece for each number of a range.
use Rattle.std.proofs.Common.{◌≡◌, ℕ, zero, suc, ◌+◌, List, ◌++◌, append-nil, append_assoc, ap, arith, flat_map, sym, ◌∙◌}
use Rattle.std.specs.List.{range_with_len}

more_from : (piece : ℕ → List ℕ) (from n j : ℕ) → from + n ≡ j → flat_map piece (range_with_len from (suc n)) ≡ flat_map piece (range_with_len from n) ++ piece j
more_from piece from zero j e = let same : from ≡ j = omega (arith, e) in rw same (append-nil (piece j))
more_from piece from (suc n) j e =
    ap (λ xs. piece from ++ xs) (more_from piece (from + 1) n j (omega (arith, e))) ∙ sym (append_assoc (piece from) (flat_map piece (range_with_len (from + 1) n)) (piece j))

-- a piece more
pub pieces_more : (piece : ℕ → List ℕ) (n : ℕ) → flat_map piece (range_with_len 0 (n + 1)) ≡ flat_map piece (range_with_len 0 n) ++ piece n
pieces_more piece n = let next : n + 1 ≡ suc n = omega arith in rw next (more_from piece 0 n n (omega arith))

-- the same behind a text
pub pieces_behind : (text : List ℕ) (piece : ℕ → List ℕ) (n : ℕ)
    → text ++ flat_map piece (range_with_len 0 (n + 1)) ≡ (text ++ flat_map piece (range_with_len 0 n)) ++ piece n
pieces_behind text piece n = ap (λ xs. text ++ xs) (pieces_more piece n) ∙ sym (append_assoc text (flat_map piece (range_with_len 0 n)) (piece n))
