-- Names picked from a list, by ascending places.
use Rattle.std.proofs.Common.{◌≡◌, ℕ, zero, suc, ◌<◌, List, [], ◌∷◌, length, map, Bool, false, ◌||◌, arith, refl, IsTrue}
use Rattle.std.specs.Prelude.{slice_index_or}
use Rattle.std.specs.List.{AllByRecursion, list_all, list_any}
use Rattle.std.specs.Str.{bytes_eq}
use Rattle.std.proofs.lemmas.Bool.{and_from, and_parts, or_parts}
use Rattle.cn_table.specs.Names.{has_repeat, is_name}
use Rattle.cn_table.proofs.Restrictions.{Ascend}

abbrev pick : List (List ℕ) → ℕ → List ℕ
pick names i = slice_index_or names i []

one_named : (names : List (List ℕ)) (i : ℕ) → i < length names → IsTrue (list_all is_name names) → IsTrue (is_name (pick names i))
one_named [] i l h = absurd (omega arith)
one_named (name ∷ names) zero l h = (and_parts (is_name name) (list_all is_name names) h).0
one_named (name ∷ names) (suc i) l h = one_named names i (omega arith) (and_parts (is_name name) (list_all is_name names) h).1

pub picked_named : (names : List (List ℕ)) (is : List ℕ) → IsTrue (list_all is_name names) → AllByRecursion (λ i. i < length names) is → IsTrue (list_all is_name (map (pick names) is))
picked_named names [] h known = refl
picked_named names (i ∷ is) h known = and_from (is_name (pick names i)) (list_all is_name (map (pick names) is)) (one_named names i known.0 h) (picked_named names is h known.1)

-- no later name is the one in this place
apart_first : (name : List ℕ) (names : List (List ℕ)) (j : ℕ) → j < length names → list_any (λ u. bytes_eq u name) names ≡ false → bytes_eq (pick names j) name ≡ false
apart_first name [] j l h = absurd (omega arith)
apart_first name (first ∷ names) zero l h = (or_parts (bytes_eq first name) (list_any (λ u. bytes_eq u name) names) h).0
apart_first name (first ∷ names) (suc j) l h = apart_first name names j (omega arith) (or_parts (bytes_eq first name) (list_any (λ u. bytes_eq u name) names) h).1

apart : (names : List (List ℕ)) (i j : ℕ) → has_repeat names ≡ false → i < j → j < length names → bytes_eq (pick names j) (pick names i) ≡ false
apart [] i j h l u = absurd (omega arith)
apart (name ∷ names) i zero h l u = absurd (omega (arith, l))
apart (name ∷ names) zero (suc j) h l u =
    apart_first name names j (omega arith) (or_parts (list_any (λ u. bytes_eq u name) names) (has_repeat names) h).0
apart (name ∷ names) (suc i) (suc j) h l u =
    apart names i j (or_parts (list_any (λ u. bytes_eq u name) names) (has_repeat names) h).1 (omega (arith, l)) (omega arith)

or_false : (a b : Bool) → a ≡ false → b ≡ false → (a || b) ≡ false
or_false a b e f = rw (e, f) refl

none_named : (names : List (List ℕ)) (i : ℕ) (is : List ℕ) → has_repeat names ≡ false → AllByRecursion (λ j. j < length names) is → AllByRecursion (λ j. i < j) is
    → list_any (λ u. bytes_eq u (pick names i)) (map (pick names) is) ≡ false
none_named names i [] h known above = refl
none_named names i (j ∷ is) h known above = or_false _ _ (apart names i j h above.0 known.0) (none_named names i is h known.1 above.1)

pub picked_distinct : (names : List (List ℕ)) (is : List ℕ) → has_repeat names ≡ false → AllByRecursion (λ i. i < length names) is → Ascend is → has_repeat (map (pick names) is) ≡ false
picked_distinct names [] h known up = refl
picked_distinct names (i ∷ is) h known up = or_false _ _ (none_named names i is h known.1 up.0) (picked_distinct names is h known.1 up.1)
