-- One list of processes after another.
use Rattle.std.proofs.Common.{◌≡◌, ℕ, zero, suc, ◌+◌, ◌-◌, ◌<◌, ◌≤◌, List, [], ◌∷◌, ◌++◌, length, map, refl, sym, ap, ◌∙◌, subst, arith, Bool, true, false, cond, ltb, Option, Some, None, replicate, append_assoc, All}
use Rattle.std.specs.Prelude.{slice_index}
use Rattle.std.specs.List.{flat_map, range_with_len, AllByRecursion, remove}
use Rattle.std.proofs.lemmas.List.{length-replicate}
use Rattle.std.proofs.lemmas.List.FromFn.{length-range_with_len}
use Rattle.std.proofs.lemmas.List.Elements.{All-from_recursion}
use Rattle.std.proofs.lemmas.Bool.{ltb-true}
use Rattle.cn_choice.specs.OrdersLeft.{AreRanks, all_orders, orders_left, ranks_from, ranks_left}
use Rattle.cn_choice.specs.Ranks.{next_ranks, numbers_of, rank_lists, ranks_after}
use Rattle.cn_choice.specs.Rising.{or_else}
use Rattle.cn_choice.proofs.OrderLemmas.Ranks.{flat_same_below, from_next, map_flat, next_long, ranks_after-next, ranks_arrange, ranks_first}

-- ---- ranks

pub ranks_short : (n : ℕ) (xs : List ℕ) → AreRanks n xs → length xs ≤ n
ranks_short n [] a = omega arith
ranks_short n (x ∷ xs) a = let r = ranks_short (n - 1) xs a.1 in omega (arith, r, a.0)

pub zeros_are_ranks : (k n : ℕ) → k ≤ n → AreRanks n (replicate k 0)
zeros_are_ranks zero n l = tt
zeros_are_ranks (suc k) n l = (omega arith, zeros_are_ranks k (n - 1) (omega arith))

pub next_are_ranks : (n : ℕ) (xs ys : List ℕ) → AreRanks n xs → next_ranks n xs ≡ Some ys → AreRanks n ys
next_are_ranks n [] ys a e = absurd (cc e)
next_are_ranks n (x ∷ xs) ys a e = by_rest (next_ranks (n - 1) xs) refl (next_are_ranks (n - 1) xs) e
  where
    of_some : (a b : List ℕ) → Some a ≡ Some b → a ≡ b
    of_some a b h = cc

    short : length xs ≤ n - 1
    short = ranks_short (n - 1) xs a.1

    by_rest : (r : Option (List ℕ)) → next_ranks (n - 1) xs ≡ r → ((zs : List ℕ) → AreRanks (n - 1) xs → next_ranks (n - 1) xs ≡ Some zs → AreRanks (n - 1) zs)
        → or_else r x (cond (ltb (x + 1) n) (Some ((x + 1) ∷ replicate (length xs) 0)) None) ≡ Some ys → AreRanks n ys
    by_rest (Some zs) g later f = subst (AreRanks n) (of_some _ _ f) (a.0, later zs a.1 g)
    by_rest None g later f = by_test (ltb (x + 1) n) refl f
      where
        by_test : (b : Bool) → ltb (x + 1) n ≡ b → cond b (Some ((x + 1) ∷ replicate (length xs) 0)) None ≡ Some ys → AreRanks n ys
        by_test true t h = subst (AreRanks n) (of_some _ _ h) (ltb-true (x + 1) n t, zeros_are_ranks (length xs) (n - 1) short)
        by_test false t h = absurd (cc h)

each_small : (n : ℕ) (xs : List ℕ) → n ≤ 8 → AreRanks n xs → AllByRecursion (λ rank. rank < 8) xs
each_small n [] l a = tt
each_small n (x ∷ xs) l a = (omega (arith, a.0), each_small (n - 1) xs (omega arith) a.1)

pub ranks_small : (n : ℕ) (xs : List ℕ) → n ≤ 8 → AreRanks n xs → All (λ rank. rank < 8) xs
ranks_small n xs l a = All-from_recursion (λ rank. rank < 8) xs (each_small n xs l a)

-- ---- the next one

pub step_within : (n : ℕ) (xs ys : List ℕ) → AreRanks n xs → next_ranks n xs ≡ Some ys → ranks_from n xs ≡ xs ∷ ranks_left n (Some ys)
unfolding ranks_from
step_within n xs ys a e =
    let after : ranks_after n xs ≡ ys ∷ ranks_after n ys = ranks_after-next n xs (ranks_short n xs a) ∙ ap (from_next n) e in
    rw (after, next_long n xs ys e) refl

pub step_longer : (n : ℕ) (xs : List ℕ) → AreRanks n xs → next_ranks n xs ≡ None → length xs < n → ranks_from n xs ≡ xs ∷ ranks_left n (Some (replicate (length xs + 1) 0))
unfolding ranks_from
step_longer n xs a e l =
    let after : ranks_after n xs ≡ [] = ranks_after-next n xs (ranks_short n xs a) ∙ ap (from_next n) e in
    let one : n - length xs ≡ suc (n - (length xs + 1)) = omega (arith, l) in
    rw (after, one, ranks_first (length xs + 1) n (omega (arith, l)), length-replicate {A = ℕ} (length xs + 1) 0) refl

pub step_last : (n : ℕ) (xs : List ℕ) → AreRanks n xs → next_ranks n xs ≡ None → n ≤ length xs → ranks_from n xs ≡ xs ∷ ranks_left n None
unfolding ranks_from
step_last n xs a e l =
    let after : ranks_after n xs ≡ [] = ranks_after-next n xs (ranks_short n xs a) ∙ ap (from_next n) e in
    let none : n - length xs ≡ 0 = omega (arith, l) in
    rw (after, none) refl

-- ---- all of them

all_ranks : (n : ℕ) → 1 ≤ n → ranks_from n (0 ∷ []) ≡ flat_map (rank_lists n) (range_with_len 1 n)
unfolding ranks_from
all_ranks n l =
    let one : n ≡ suc (n - 1) = omega arith in
    let first : rank_lists n 1 ≡ (0 ∷ []) ∷ ranks_after n (0 ∷ []) = ranks_first 1 n l in
    sym (ap (λ (m : ℕ). flat_map (rank_lists n) (range_with_len 1 m)) one ∙ ap (λ ls. ls ++ flat_map (rank_lists n) (range_with_len 2 (n - 1))) first)

pub orders_all : (n : ℕ) → 1 ≤ n → orders_left n (Some (0 ∷ [])) ≡ all_orders n
orders_all n l =
    ap (map (numbers_of (range_with_len 0 n))) (all_ranks n l)
    ∙ (map_flat (numbers_of (range_with_len 0 n)) (rank_lists n) (range_with_len 1 n)
    ∙ flat_same_below _ _ 1 n (1 + n) (omega arith) (λ k u. ranks_arrange k n (range_with_len 0 n) (length-range_with_len 0 n)))

-- ---- the numbers

pub range_more : (a k : ℕ) → range_with_len a (suc k) ≡ range_with_len a k ++ (a + k) ∷ []
range_more a zero = ap (λ (x : ℕ). x ∷ []) (omega arith)
range_more a (suc k) = ap (λ (xs : List ℕ). a ∷ xs) (range_more (a + 1) k ∙ ap (λ (x : ℕ). range_with_len (a + 1) k ++ x ∷ []) (omega arith))

-- the numbers of the ranks that are left, behind the numbers found so far
pub numbers_more : (free ranks numbers whole : List ℕ) (rank : ℕ) (rest : List ℕ) → ranks ≡ rank ∷ rest → whole ≡ numbers ++ numbers_of free ranks
    → whole ≡ (numbers ++ slice_index free rank ∷ []) ++ numbers_of (remove free rank) rest
numbers_more free ranks numbers whole rank rest e w = w ∙ (ap (λ rs. numbers ++ numbers_of free rs) e ∙ sym (append_assoc numbers (slice_index free rank ∷ []) (numbers_of (remove free rank) rest)))
