-- Lists with the same elements, as often.
use Rattle.std.proofs.Common.{ℕ, zero, suc, ◌≡◌, ◌≢◌, ◌+◌, ◌<◌, ◌≤◌, inl, inr, List, [], ◌∷◌, length, remove, replicate, refl, sym, ap, ◌∙◌, arith, Some}
use Rattle.std.specs.Prelude.{IsPermutation, slice_index, sum_by}
use Rattle.std.proofs.lemmas.List.Sums.{sum_by-cons}
use Rattle.std.proofs.lemmas.Bool.{cases_lt}
use Rattle.std.proofs.lemmas.Option.{slice_get-get_or}
use Rattle.std.proofs.lemmas.List.Sorted.{IsPermutation-cons, IsPermutation-refl, IsPermutation-remove, IsPermutation-sym, IsPermutation-trans, sum_by-IsPermutation}
use Rattle.cn_stocks.specs.Words.{HaveSame, times}
use Rattle.cn_stocks.proofs.Times.{one, one_at, one_else, place_in, same_or, times_append, times_at, times_cons, times_none}
use Rattle.cn_divisions.proofs.Counting.{times_replicate, times_replicate_else}
use Rattle.cn_shortest.specs.Sizes.{AreCounts, AreMerged, HasBoth, sizes_from, sizes_of}
use Rattle.cn_shortest.proofs.Elements.{read_at}

pub permuted_same : (xs ys : List ℕ) → IsPermutation xs ys → HaveSame xs ys
permuted_same xs ys p o = sym (sum_by-IsPermutation (one o) xs ys p)

-- the list without one element
pub pulled : (x : ℕ) (ys : List ℕ) → 1 ≤ times x ys → (rest : List ℕ) × IsPermutation ys (x ∷ rest)
pulled x ys l =
    let p = place_in x ys l in
    (remove ys p.0, IsPermutation-remove ys p.0 x p.1 (sym (read_at ys p.0 x x (slice_get-get_or ys p.0 0 p.1 ∙ ap Some p.2))))

pub shuffled : (xs ys : List ℕ) → HaveSame xs ys → IsPermutation xs ys
shuffled [] [] s = IsPermutation-refl []
shuffled [] (y ∷ ys) s = absurd (omega (arith, s y, times_at y ys, times_none y))
shuffled (x ∷ xs) ys s =
    let p = pulled x ys (omega (arith, s x, times_at x xs)) in
    let rest : HaveSame xs p.0 = λ o. omega (arith, s o, times_cons o x xs, times_cons o x p.0, permuted_same ys (x ∷ p.0) p.1 o) in
    IsPermutation-trans (x ∷ xs) (x ∷ p.0) ys (IsPermutation-cons x xs p.0 (shuffled xs p.0 rest)) (IsPermutation-sym ys (x ∷ p.0) p.1)

-- ---- sizes by their counts
pub times_out : (counts : List ℕ) (x k : ℕ) → k < x → times x (sizes_from counts k) ≡ 0
times_out counts x zero l = times_none x
times_out counts x (suc k) l =
    omega (arith, times_append x (replicate (slice_index counts (suc k)) (suc k)) (sizes_from counts k), times_replicate_else x (slice_index counts (suc k)) (suc k) (λ e. omega (arith, e, l)), times_out counts x k (omega (arith, l)))

pub times_in : (counts : List ℕ) (x k : ℕ) → 1 ≤ x → x ≤ k → times x (sizes_from counts k) ≡ slice_index counts x
times_in counts x zero some l = absurd (omega (arith, some, l))
times_in counts x (suc k) some l = elim (same_or (suc k) x) [
  | inl e ↦ omega (arith, times_append x (replicate (slice_index counts (suc k)) (suc k)) (sizes_from counts k), times_replicate x (slice_index counts (suc k)) (suc k) e, times_out counts x k (omega (arith, e)), ap (slice_index counts) e)
  | inr n ↦ omega (arith, times_append x (replicate (slice_index counts (suc k)) (suc k)) (sizes_from counts k), times_replicate_else x (slice_index counts (suc k)) (suc k) n, times_in counts x k some (omega (arith, l, n)))
]

pub times_zero : (counts : List ℕ) (k : ℕ) → times 0 (sizes_from counts k) ≡ 0
times_zero counts zero = times_none 0
times_zero counts (suc k) =
    omega (arith, times_append 0 (replicate (slice_index counts (suc k)) (suc k)) (sizes_from counts k), times_replicate_else 0 (slice_index counts (suc k)) (suc k) (λ e. omega (arith, e)), times_zero counts k)

-- counts of a list of sizes
pub counts_same : (list counts : List ℕ) → AreCounts list counts → times 0 list ≡ 0 → ((x : ℕ) → 8 < x → times x list ≡ 0) → HaveSame (sizes_of counts) list
counts_same list counts are none above zero = times_zero counts 8 ∙ sym none
counts_same list counts are none above (suc x) = elim (cases_lt 8 (suc x)) [
  | inl l ↦ times_out counts (suc x) 8 l ∙ sym (above (suc x) l)
  | inr l ↦ times_in counts (suc x) 8 (omega arith) l ∙ are.each (suc x) l
]

-- two teams as one: what is left is the same
pub record Merged (old new : List ℕ) (a b : ℕ) : Type 0 where
  pub rest : List ℕ
  pub old_is : IsPermutation (sizes_of old) (a ∷ (b ∷ rest))
  pub new_is : IsPermutation (sizes_of new) ((a + b) ∷ rest)

pub both_cons : (x a b : ℕ) → times x (a ∷ (b ∷ [])) ≡ one x a + one x b
both_cons x a b = omega (arith, times_cons x a (b ∷ []), times_cons x b [], times_none x)

pub merged_is : (old new : List ℕ) (a b : ℕ) → 1 ≤ a → 1 ≤ b → a + b ≤ 8 → HasBoth old a b → AreMerged old a b new → Merged old new a b
merged_is old new a b la lb few has are =
    let ina : 1 ≤ times a (sizes_of old) = omega (arith, times_in old a 8 la (omega (arith, few)), has a (omega (arith, few)), both_cons a a b, one_at a) in
    let first = pulled a (sizes_of old) ina in
    let inb : 1 ≤ times b first.0 = omega (arith, permuted_same (sizes_of old) (a ∷ first.0) first.1 b, times_cons b a first.0, times_in old b 8 lb (omega (arith, few)), has b (omega (arith, few)), both_cons b a b, one_at b) in
    let second = pulled b first.0 inb in
    let whole : IsPermutation (sizes_of old) (a ∷ (b ∷ second.0)) = IsPermutation-trans (sizes_of old) (a ∷ first.0) (a ∷ (b ∷ second.0)) first.1 (IsPermutation-cons a first.0 (b ∷ second.0) second.1) in
    record {
      rest = second.0;
      old_is = whole;
      new_is = shuffled (sizes_of new) ((a + b) ∷ second.0) (same second.0 whole);
    }
  where
    split : (x : ℕ) (rest : List ℕ) → IsPermutation (sizes_of old) (a ∷ (b ∷ rest)) → times x (sizes_of old) ≡ one x a + (one x b + times x rest)
    split x rest p = permuted_same (sizes_of old) (a ∷ (b ∷ rest)) p x ∙ omega (arith, times_cons x a (b ∷ rest), times_cons x b rest)

    out : (x : ℕ) (rest : List ℕ) → IsPermutation (sizes_of old) (a ∷ (b ∷ rest)) → times x (sizes_of old) ≡ 0 → times x (sizes_of new) ≡ 0 → x ≢ a + b → times x (sizes_of new) ≡ times x ((a + b) ∷ rest)
    out x rest p u v ne = omega (arith, split x rest p, u, v, times_cons x (a + b) rest, one_else x (a + b) (λ e. ne (sym e)))

    same : (rest : List ℕ) → IsPermutation (sizes_of old) (a ∷ (b ∷ rest)) → HaveSame (sizes_of new) ((a + b) ∷ rest)
    same rest p zero = out 0 rest p (times_zero old 8) (times_zero new 8) (λ e. omega (arith, e, la))
    same rest p (suc x) = elim (cases_lt 8 (suc x)) [
      | inl l ↦ out (suc x) rest p (times_out old (suc x) 8 l) (times_out new (suc x) 8 l) (λ e. omega (arith, e, l, few))
      | inr l ↦ omega (arith, split (suc x) rest p, times_in old (suc x) 8 (omega arith) l, times_in new (suc x) 8 (omega arith) l, are.each (suc x) l, both_cons (suc x) a b, times_cons (suc x) (a + b) [], times_none (suc x), times_cons (suc x) (a + b) rest)
    ]

ones : (xs : List ℕ) → sum_by (λ x. 1) xs ≡ length xs
ones [] = refl
ones (x ∷ xs) = omega (arith, sum_by-cons (λ y. 1) x xs, ones xs)

pub same_length : (xs ys : List ℕ) → IsPermutation xs ys → length xs ≡ length ys
same_length xs ys p = sym (ones xs) ∙ (sym (sum_by-IsPermutation (λ x. 1) xs ys p) ∙ ones ys)
