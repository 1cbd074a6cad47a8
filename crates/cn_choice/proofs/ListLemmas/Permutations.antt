-- The items of `permutations`, as lists of distinct numbers.
use Rattle.std.proofs.Common.{◌≡◌, ℕ, zero, suc, ◌+◌, ◌-◌, ◌<◌, ◌≤◌, inl, inr, List, [], ◌∷◌, ◌++◌, length, map, refl, sym, ap, ◌∙◌, subst, arith, append_assoc}
use Rattle.std.proofs.Math.Nat.{eq-or-lt_of_le}
use Rattle.std.specs.List.{AllByRecursion, range_with_len}
use Rattle.std.specs.Iterator.Runs.{WholeRun}
use Rattle.std.specs.declared.ops.Range.{Range}
use Rattle.std.proofs.iter.Yields.{nat_range_steps}
use Rattle.std.proofs.lemmas.List.{map-id}
use Rattle.std.proofs.lemmas.List.FromFn.{length-range_with_len, get_or-range_with_len}
use Rattle.std.proofs.lemmas.Iterator.{YieldsList-from_range}
use Rattle.itertools.proofs.AdaptorLemmas.{items_from_whole_run}
use Rattle.itertools.specs.Pool.{unranked, ClonesAt}
use Rattle.itertools.specs.Odometer.{ways}
use Rattle.cn_choice.specs.Arrangements.{arrangements}
use Rattle.cn_choice.proofs.ListLemmas.Arrangements.{Differ, Rises, differ_taken, taken_differ, taken_from, taken_in, taken_known, unranked-ways}
use Rattle.cn_choice.proofs.ListLemmas.Members.{IsIn, IsIn-append_right, each_from}

-- the items of a range are its numbers
pub range_items : (n : ℕ) (pool : List ℕ) (s : Range ℕ) → s ≡ record { start = 0; end = n } → WholeRun nat_range_steps s (λ p. pool ≡ p.items) → pool ≡ range_with_len 0 n
range_items n pool s e r = r.3 ∙ (sym (map-id r.0.items) ∙ items_from_whole_run (YieldsList-from_range 0 n n e (omega arith)) r.0 r.1 r.2)

pub in_range : (a n x : ℕ) → IsIn x (range_with_len a n) → (a ≤ x) × (x < a + n)
in_range a zero x h = absurd h
in_range a (suc n) x h = elim h [ inl e ↦ (omega arith, omega arith) | inr i ↦ (let r = in_range (a + 1) n x i in (omega (arith, r.0), omega (arith, r.1))) ]

pub range_in : (a n x : ℕ) → a ≤ x → x < a + n → IsIn x (range_with_len a n)
range_in a zero x l u = absurd (omega arith)
range_in a (suc n) x l u = elim (eq-or-lt_of_le l) [ inl e ↦ inl e | inr g ↦ inr (range_in (a + 1) n x (omega arith) (omega arith)) ]

pub range_rises : (a n : ℕ) → Rises (range_with_len a n)
range_rises a zero = tt
range_rises a (suc n) = (each_from (λ y. a < y) (range_with_len (a + 1) n) (λ y i. let r = in_range (a + 1) n y i in omega (arith, r.0)), range_rises (a + 1) n)

-- an arrangement of the numbers below n
pub arranged : (n k : ℕ) (xs : List ℕ) → IsIn xs (arrangements k (range_with_len 0 n)) → (length xs ≡ k) × AllByRecursion (λ x. x < n) xs × Differ xs
arranged n k xs h =
    let t = taken_from k xs (range_with_len 0 n) h in (
      t.0,
      each_from (λ x. x < n) xs (λ x i. let r = in_range 0 n x (taken_known xs (range_with_len 0 n) x t.1 i) in omega (arith, r.1)),
      taken_differ xs (range_with_len 0 n) (range_rises 0 n) t.1,
    )

pub to_arranged : (n : ℕ) (xs : List ℕ) → ((x : ℕ) → IsIn x xs → x < n) → Differ xs → IsIn xs (arrangements (length xs) (range_with_len 0 n))
to_arranged n xs b d = taken_in xs (range_with_len 0 n) (differ_taken xs (range_with_len 0 n) d (λ x i. range_in 0 n x (omega arith) (omega (arith, b x i))))

-- clones of the places of the numbers below n are those places
pub clones_of_range : (n : ℕ) (clones : ℕ → ℕ → Type 0) → ((x y : ℕ) → clones x y → y ≡ x) → (xs vs : List ℕ) → AllByRecursion (λ x. x < n) xs → ClonesAt clones (range_with_len 0 n) xs vs → vs ≡ xs
clones_of_range n clones same [] [] b h = refl
clones_of_range n clones same [] (v ∷ vs) b h = absurd h
clones_of_range n clones same (x ∷ xs) [] b h = absurd h
clones_of_range n clones same (x ∷ xs) (v ∷ vs) b h =
    let e : v ≡ x = same _ v h.0 ∙ (get_or-range_with_len 0 n x v b.0 ∙ omega arith) in
    rw (e, clones_of_range n clones same xs vs b.1 h.1) refl

-- the ways from the start lead to all arrangements
pub all_ways : (n k len : ℕ) (left : List (List ℕ)) (pool : List ℕ) → pool ≡ range_with_len 0 n → len ≡ length pool → left ≡ ways (λ _. 0) (λ q. len - length q) k []
    → map (unranked (range_with_len 0 n)) left ≡ arrangements k (range_with_len 0 n)
all_ways n k len left pool e l w =
    rw w (unranked-ways len k [] (range_with_len 0 n) (omega (arith, l, ap length e)))

pub record Next (n k : ℕ) (left taken : List (List ℕ)) (vs : List ℕ) : Type 0 where
  pub long : length vs ≡ k
  pub rest : (taken ++ vs ∷ []) ++ map (unranked (range_with_len 0 n)) left ≡ arrangements k (range_with_len 0 n)

-- the next item is the next arrangement
pub next_taken : (n k : ℕ) (left later taken : List (List ℕ)) (pool vs ds : List ℕ) (clones : ℕ → ℕ → Type 0) → ((x y : ℕ) → clones x y → y ≡ x)
    → pool ≡ range_with_len 0 n → left ≡ ds ∷ later → ClonesAt clones pool (unranked (range_with_len 0 (length pool)) ds) vs
    → taken ++ map (unranked (range_with_len 0 n)) left ≡ arrangements k (range_with_len 0 n) → Next n k later taken vs
next_taken n k left later taken pool vs ds clones same e next reads all =
    let first : List ℕ = unranked (range_with_len 0 n) ds in
    let here : taken ++ (first ∷ map (unranked (range_with_len 0 n)) later) ≡ arrangements k (range_with_len 0 n) = rw next at all in
    let member : IsIn first (arrangements k (range_with_len 0 n)) = subst (λ ls. IsIn first ls) here (IsIn-append_right first taken _ (inl refl)) in
    let facts = arranged n k first member in
    let read : ClonesAt clones (range_with_len 0 n) (unranked (range_with_len 0 n) ds) vs = rw (e, length-range_with_len 0 n) at reads in
    let item : vs ≡ first = clones_of_range n clones same first vs facts.1 read in
    record { long = ap length item ∙ facts.0; rest = rw (item, append_assoc) here }

pub pushed : (all old taken : List (List ℕ)) (vs ws : List ℕ) → all ≡ old ++ taken → ws ≡ vs → all ++ ws ∷ [] ≡ old ++ (taken ++ vs ∷ [])
pushed all old taken vs ws e f = rw (e, f) (append_assoc old taken (vs ∷ []))
