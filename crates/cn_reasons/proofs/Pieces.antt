-- Lists that are put together of pieces: one for each number of a range.
use Rattle.std.proofs.Common.{◌≡◌, ◌∙◌, ℕ, zero, suc, ◌+◌, ◌<◌, ◌≤◌, List, ◌++◌, append-nil, append_assoc, ap, arith, flat_map, sym, All}
use Rattle.std.specs.List.{range_with_len}
use Rattle.std.proofs.lemmas.List.Elements.{All-append, All-nil}

module _ {A : Type 0} (piece : ℕ → List A) where
  one_more : (from n j : ℕ) → from + n ≡ j → flat_map piece (range_with_len from (suc n)) ≡ flat_map piece (range_with_len from n) ++ piece j
  one_more from zero j e = let same : from ≡ j = omega (arith, e) in rw same (append-nil (piece j))
  one_more from (suc n) j e =
      ap (λ xs. piece from ++ xs) (one_more (from + 1) n j (omega (arith, e)))
      ∙ sym (append_assoc (piece from) (flat_map piece (range_with_len (from + 1) n)) (piece j))

  -- a piece more
  pub pieces_push : (n : ℕ) → flat_map piece (range_with_len 0 (n + 1)) ≡ flat_map piece (range_with_len 0 n) ++ piece n
  pieces_push n = let next : n + 1 ≡ suc n = omega arith in rw next (one_more 0 n n (omega arith))

  -- what holds of the elements of each piece holds of all
  pub All-pieces : (P : A → Type 0) (from n : ℕ) → ((k : ℕ) → from ≤ k → k < from + n → All P (piece k)) → All P (flat_map piece (range_with_len from n))
  All-pieces P from zero each = All-nil P
  All-pieces P from (suc n) each =
      All-append P (piece from) (flat_map piece (range_with_len (from + 1) n)) (each from (omega arith) (omega arith))
      (All-pieces P (from + 1) n (λ k more less. each k (omega (arith, more)) (omega (arith, less))))
