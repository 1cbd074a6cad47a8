-- Lists that are put together of a part for each number of a range.
use Rattle.std.proofs.Common.{◌≡◌, ℕ, zero, suc, ◌+◌, ◌<◌, List, [], ◌∷◌, ◌++◌, append-nil, append_assoc, ap, arith, flat_map, sym, ◌∙◌}
use Rattle.std.specs.List.{AllByRecursion, range_with_len}

more_from : {X : Type 0} (part : ℕ → List X) (from n j : ℕ) → from + n ≡ j → flat_map part (range_with_len from (suc n)) ≡ flat_map part (range_with_len from n) ++ part j
more_from part from zero j e = let same : from ≡ j = omega (arith, e) in rw same (append-nil (part j))
more_from part from (suc n) j e =
    ap (λ xs. part from ++ xs) (more_from part (from + 1) n j (omega (arith, e))) ∙ sym (append_assoc (part from) (flat_map part (range_with_len (from + 1) n)) (part j))

-- a part more
pub items_more : {X : Type 0} (part : ℕ → List X) (n : ℕ) → flat_map part (range_with_len 0 (n + 1)) ≡ flat_map part (range_with_len 0 n) ++ part n
items_more part n = let next : n + 1 ≡ suc n = omega arith in rw next (more_from part 0 n n (omega arith))

-- the same behind a list
pub items_behind : {X : Type 0} (xs : List X) (part : ℕ → List X) (n : ℕ)
    → xs ++ flat_map part (range_with_len 0 (n + 1)) ≡ (xs ++ flat_map part (range_with_len 0 n)) ++ part n
items_behind xs part n = ap (λ ys. xs ++ ys) (items_more part n) ∙ sym (append_assoc xs (flat_map part (range_with_len 0 n)) (part n))

-- ---- a property of each element

appended : {X : Type 0} (P : X → Type 0) (xs ys : List X) → AllByRecursion P xs → AllByRecursion P ys → AllByRecursion P (xs ++ ys)
appended P [] ys a b = b
appended P (x ∷ xs) ys a b = (a.0, appended P xs ys a.1 b)

each_from : {X : Type 0} (P : X → Type 0) (part : ℕ → List X) (from n : ℕ) → ((i : ℕ) → i < from + n → AllByRecursion P (part i)) → AllByRecursion P (flat_map part (range_with_len from n))
each_from P part from zero h = tt
each_from P part from (suc n) h =
    appended P (part from) (flat_map part (range_with_len (from + 1) n)) (h from (omega arith)) (each_from P part (from + 1) n (λ i l. h i (omega (arith, l))))

-- what holds of each element of each part holds of each element
pub each_in_range : {X : Type 0} (P : X → Type 0) (part : ℕ → List X) (n : ℕ) → ((i : ℕ) → i < n → AllByRecursion P (part i)) → AllByRecursion P (flat_map part (range_with_len 0 n))
each_in_range P part n h = each_from P part 0 n (λ i l. h i (omega (arith, l)))
