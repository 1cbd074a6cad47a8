-- Texts that are written one behind the other.
use Rattle.std.proofs.Common.{◌≡◌, ◌∙◌, ℕ, List, [], ◌∷◌, ◌++◌, Result, ap, append-nil, append_assoc, flat_map, refl, sym}
use Rattle.std.specs.Prelude.{OnOk}
use Rattle.cn_pieces.proofs.Ends.{as_wanted}

-- what stands behind a text that was written
pub behind : (before piece now rest all : List ℕ) → now ≡ before ++ piece → before ++ (piece ++ rest) ≡ all → now ++ rest ≡ all
behind before piece now rest all here next = ap (λ xs. xs ++ rest) here ∙ (append_assoc before piece rest ∙ next)

-- pieces before a rest
abbrev pub onto : List (List ℕ) → List ℕ → List ℕ
onto [] rest = rest
onto (piece ∷ pieces) rest = piece ++ onto pieces rest

onto_are : (pieces : List (List ℕ)) (rest : List ℕ) → flat_map (λ piece. piece) pieces ++ rest ≡ onto pieces rest
onto_are [] rest = refl
onto_are (piece ∷ pieces) rest = append_assoc piece (flat_map (λ other. other) pieces) rest ∙ ap (λ xs. piece ++ xs) (onto_are pieces rest)

-- what stands behind pieces that were written
pub behind_pieces : (pieces : List (List ℕ)) (before now rest all : List ℕ) → now ≡ before ++ flat_map (λ piece. piece) pieces → before ++ onto pieces rest ≡ all → now ++ rest ≡ all
behind_pieces pieces before now rest all here next =
    behind before (flat_map (λ piece. piece) pieces) now rest all here (ap (λ xs. before ++ xs) (onto_are pieces rest) ∙ next)

-- the text that a last call leaves
pub as_last : {T E : Type 0} (r : Result T E) (before piece now wanted : List ℕ) → OnOk r (now ≡ before ++ piece) → before ++ (piece ++ []) ≡ wanted → OnOk r (now ≡ wanted)
as_last r before piece now wanted here same = as_wanted r now (before ++ piece) wanted here (ap (λ xs. before ++ xs) (sym (append-nil piece)) ∙ same)
