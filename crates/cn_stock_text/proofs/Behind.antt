-- Texts that are written one behind the other.
use Rattle.std.proofs.Common.{◌≡◌, ◌∙◌, ℕ, zero, suc, ◌+◌, ◌<◌, List, [], ◌∷◌, ◌++◌, Result, Ok, Err, ap, append-nil, append_assoc, arith, flat_map, get_or, length, refl, sym, take}
use Rattle.std.specs.Prelude.{OnOk, if◌then◌else◌}
use Rattle.std.specs.Result.{is_ok}
use Rattle.cn_pieces.proofs.Ends.{as_wanted}

-- what stands behind a text that was written
pub behind : (before piece now rest all : List ℕ) → now ≡ before ++ piece → before ++ (piece ++ rest) ≡ all → now ++ rest ≡ all
behind before piece now rest all here next = ap (λ xs. xs ++ rest) here ∙ (append_assoc before piece rest ∙ next)

-- pieces before a rest
abbrev pub onto : List (List ℕ) → List ℕ → List ℕ
onto [] rest = rest
onto (piece ∷ pieces) rest = piece ++ onto pieces rest

onto_are : (pieces : List (List ℕ)) (rest : List ℕ) → flat_map (λ piece. piece) pieces ++ rest ≡ onto pieces rest
onto_are [] rest = refl
onto_are (piece ∷ pieces) rest = append_assoc piece (flat_map (λ other. other) pieces) rest ∙ ap (λ xs. piece ++ xs) (onto_are pieces rest)

-- what stands behind pieces that were written
pub behind_pieces : (pieces : List (List ℕ)) (before now rest all : List ℕ) → now ≡ before ++ flat_map (λ piece. piece) pieces → before ++ onto pieces rest ≡ all → now ++ rest ≡ all
behind_pieces pieces before now rest all here next =
    behind before (flat_map (λ piece. piece) pieces) now rest all here (ap (λ xs. before ++ xs) (onto_are pieces rest) ∙ next)

-- the text that a last call leaves
pub as_last : {T E : Type 0} (r : Result T E) (before piece now wanted : List ℕ) → OnOk r (now ≡ before ++ piece) → before ++ (piece ++ []) ≡ wanted → OnOk r (now ≡ wanted)
as_last r before piece now wanted here same = as_wanted r now (before ++ piece) wanted here (ap (λ xs. before ++ xs) (sym (append-nil piece)) ∙ same)

-- the same, where the last call tells what it leaves if it fails
pub as_last_str : {T E : Type 0} (r : Result T E) (before piece now wanted : List ℕ) → now ≡ (if is_ok r then before ++ piece else before) → before ++ (piece ++ []) ≡ wanted
    → OnOk r (now ≡ wanted)
as_last_str (Ok x) before piece now wanted here same = here ∙ (ap (λ xs. before ++ xs) (sym (append-nil piece)) ∙ same)
as_last_str (Err x) before piece now wanted here same = tt

-- the text of one item more
one_more : {X : Type 0} (f : X → List ℕ) (xs : List X) (k : ℕ) (x : X) → k < length xs → x ≡ get_or xs k x → flat_map f (take (suc k) xs) ≡ flat_map f (take k xs) ++ f x
one_more f [] k x l is = absurd (omega arith)
one_more f (y ∷ ys) zero x l is = append-nil (f y) ∙ ap f (sym is)
one_more f (y ∷ ys) (suc k) x l is = ap (λ t. f y ++ t) (one_more f ys k x (omega (arith, l)) is) ∙ sym (append_assoc (f y) (flat_map f (take k ys)) (f x))

pub flat_more : {X : Type 0} (f : X → List ℕ) (xs : List X) (k : ℕ) (x : X) (text before now : List ℕ) → k < length xs → x ≡ get_or xs k x
    → before ≡ text ++ flat_map f (take k xs) → now ≡ before ++ f x → now ≡ text ++ flat_map f (take (k + 1) xs)
flat_more f xs k x text before now l is so_far here =
    let on : k + 1 ≡ suc k = omega arith in
    rw on (here ∙ (ap (λ ys. ys ++ f x) so_far ∙ (append_assoc text (flat_map f (take k xs)) (f x) ∙ ap (λ ys. text ++ ys) (sym (one_more f xs k x l is)))))
