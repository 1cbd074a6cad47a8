-- The sizes of a coarser division come of those of a finer one, as teams become one.
use Rattle.std.proofs.Common.{ℕ, zero, suc, ◌≡◌, ◌≢◌, ◌+◌, ◌*◌, ◌-◌, ◌<◌, ◌≤◌, Bool, true, false, cond, List, [], ◌∷◌, length, take, get_or, refl, sym, ap, ◌∙◌, subst, arith, nat_eq}
use Rattle.std.specs.List.{range_with_len}
use Rattle.std.specs.Prelude.{All, slice_index, sum}
use Rattle.std.proofs.Math.Seq.{take-length}
use Rattle.std.proofs.lemmas.Bool.{eqb-true}
use Rattle.std.proofs.lemmas.List.Elements.{All-head, All-tail}
use Rattle.std.proofs.lemmas.List.FromFn.{get_or-map-range_with_len, length-map-range_with_len}
use Rattle.cn_choice.proofs.ListLemmas.Members.{IsIn, IsIn-map_from}
use Rattle.cn_choice.proofs.ListLemmas.Permutations.{in_range}
use Rattle.cn_stocks.specs.Words.{times}
use Rattle.cn_stocks.proofs.Times.{one, one_else, times_cons, times_none}
use Rattle.cn_divisions.specs.Divisions.{teams_of}
use Rattle.cn_divisions.specs.Sizes.{AreSizes}
use Rattle.cn_divisions.proofs.Counting as counting
use Rattle.cn_divisions.proofs.Counting.{by_value, more_times}
use Rattle.cn_tree_costs.specs.Cost.{total}
use Rattle.cn_tree_costs.specs.Sizes.{IsDivision, block, team_size}
use Rattle.cn_shortest.specs.Roots.{AreWithin}
use Rattle.cn_shortest.specs.Sizes.{AreCounts}
use Rattle.cn_shortest.proofs.Dividing.{same_factor, sum_at}
use Rattle.cn_shortest.proofs.Moves.{along, more_within, moved_along, within_along}
use Rattle.cn_tree_costs.proofs.Numbers.{long_sum, sum_cons, total_same}
use Rattle.cn_shortest.proofs.TeamCounts.{block_low, block_second, block_size, counts_at, counts_long, counts_of, number, number_of_list, size_same}

-- ---- processes of two teams
pub two_teams : (n : ℕ) (sizes : List ℕ) → IsDivision n sizes → (y : ℕ) × (z : ℕ) × (y < n) × (z < n) × (block sizes y ≢ block sizes z)
two_teams n [] division = (let l = division.several in absurd (omega (arith, l)))
two_teams n (m ∷ []) division = (let l = division.several in absurd (omega (arith, l)))
two_teams n (m ∷ (x ∷ sizes)) division =
    let w = division.whole in
    let lm : 1 ≤ m = All-head (λ i. 1 ≤ i) m (x ∷ sizes) division.inhabited in
    let lx : 1 ≤ x = All-head (λ i. 1 ≤ i) x sizes (All-tail (λ i. 1 ≤ i) m (x ∷ sizes) division.inhabited) in
    (0, m, omega (arith, w, lm, sum_cons m (x ∷ sizes)), omega (arith, w, lx, sum_cons m (x ∷ sizes), sum_cons x sizes), block_second m x sizes lm lx)

no_empty : (sizes : List ℕ) → All (λ m. 1 ≤ m) sizes → times 0 sizes ≡ 0
no_empty [] each = times_none 0
no_empty (m ∷ sizes) each =
    let l = All-head (λ i. 1 ≤ i) m sizes each in
    omega (arith, times_cons 0 m sizes, one_else 0 m (λ e. omega (arith, e, l)), no_empty sizes (All-tail (λ i. 1 ≤ i) m sizes each))

-- as many processes as s are in each team of s
as_often : (s k : ℕ) (f : ℕ → ℕ) → total (λ g. cond (nat_eq (f g) s) (f g) 0) k ≡ s * total (λ g. one s (f g)) k
as_often s zero f = omega arith
as_often s (suc k) f = go (nat_eq (f k) s) refl (as_often s k f)
  where
    go : (b : Bool) → nat_eq (f k) s ≡ b → total (λ g. cond (nat_eq (f g) s) (f g) 0) k ≡ s * total (λ g. one s (f g)) k
        → total (λ g. cond (nat_eq (f g) s) (f g) 0) k + cond (nat_eq (f k) s) (f k) 0 ≡ s * (total (λ g. one s (f g)) k + one s (f k))
    go true e so = (let same : f k ≡ s = eqb-true (f k) s e in rw e (omega (arith, so, same)))
    go false e so = rw e (omega (arith, so))

same_total : (f : ℕ → ℕ) (k : ℕ) → counting.total f k ≡ total f k
same_total f zero = refl
same_total f (suc k) = omega (arith, same_total f k)

-- merges lead from the first sizes to the second ones
pub record IsReached (n : ℕ) (from sizes : List ℕ) : Type 0 where
  pub old : List ℕ
  pub new : List ℕ
  pub counts : AreCounts from old
  pub within : AreWithin n 8 old new
  pub new_is : (x : ℕ) → x ≤ 8 → slice_index new x ≡ times x sizes

-- ---- the sizes of a division, by its teams
module _ (n : ℕ) (f : ℕ → ℕ) (from : List ℕ) (k : ℕ) (top : (p : ℕ) → p < n → f p < k) (are : AreSizes (teams_of f n) from) where
  abbrev teams : List ℕ
  teams = teams_of f n

  long : length teams ≡ n
  long = length-map-range_with_len f 0 n

  team_at : (p : ℕ) → p < n → get_or teams p 0 ≡ f p
  team_at p l = get_or-map-range_with_len f 0 n p p 0 l (omega arith)

  below_top : (x : ℕ) → IsIn x teams → x < k
  below_top x i =
      let r = IsIn-map_from f x (range_with_len 0 n) i in
      let l = (in_range 0 n r.0 r.2).1 in
      subst (λ y. y < k) r.1 (top r.0 (omega (arith, l)))

  size_taken : (j i : ℕ) → i ≤ n → team_size f i j ≡ times j (take i teams)
  size_taken j zero l = sym (times_none j)
  size_taken j (suc i) l =
      let next : i + 1 ≡ suc i = omega arith in
      omega (arith, size_taken j i (omega (arith, l)), more_times j teams i (omega (arith, l, long)), ap (one j) (team_at i (omega (arith, l))), ap (λ m. times j (take m teams)) next)

  size_is : (j : ℕ) → team_size f n j ≡ times j teams
  size_is j = size_taken j n (omega arith) ∙ ap (times j) (subst (λ m. take m teams ≡ teams) long (take-length teams))

  pub number_found : (x : ℕ) → times (suc x) from ≡ number n k f (suc x)
  number_found x =
      let s = suc x in
      same_factor s (times s from) (number n k f s) (omega arith)
      (are.counted s ∙ (by_value (λ j. nat_eq (times j teams) s) k teams below_top
      ∙ (same_total (λ j. cond (nat_eq (times j teams) s) (times j teams) 0) k ∙ (as_often s k (λ j. times j teams) ∙ ap (λ m. s * m) (total_same (λ j. one s (times j teams)) (λ j. one s (team_size f n j)) k (λ j l. ap (one s) (sym (size_is j))))))))

  counts_found : AreCounts from (counts_of n k f)
  counts_found = record { long = counts_long n k f; each = each }
    where
      each : (x : ℕ) → x ≤ 8 → slice_index (counts_of n k f) x ≡ times x from
      each zero l = counts_at n k f 0 l ∙ sym are.some
      each (suc x) l = counts_at n k f (suc x) l ∙ sym (number_found x)

-- ---- and those of a coarser one
module _ (n : ℕ) (f : ℕ → ℕ) (from sizes : List ℕ) (few : n ≤ 8) (division : IsDivision n sizes) (high : (p : ℕ) → n ≤ f p) (coarse : (p q : ℕ) → p < n → q < n → f p ≡ f q → block sizes p ≡ block sizes q) (are : AreSizes (teams_of f n) from) where
  abbrev k : ℕ
  k = sum (teams_of f n) + n + 1

  abbrev g : ℕ → ℕ
  g = block sizes

  top : (p : ℕ) → p < n → f p < k
  top p l = omega (arith, sum_at (teams_of f n) p, get_or-map-range_with_len f 0 n p p 0 l (omega arith))

  low : (p : ℕ) → p < n → g p < n
  low p l = omega (arith, l, block_low sizes p division.inhabited)

  abbrev last : ℕ → ℕ
  last = along f g n

  last_is : (p : ℕ) → p < n → last p ≡ g p
  last_is p l = moved_along f g n k high top low coarse n (omega arith) p l

  reached_at : (x : ℕ) → number n k last (suc x) ≡ times (suc x) sizes
  reached_at x =
      let w = division.whole in
      total_same (λ j. one (suc x) (team_size last n j)) (λ j. one (suc x) (get_or sizes j 0)) k (λ j l. ap (one (suc x)) (size_same last g n j last_is ∙ block_size sizes n j w))
      ∙ number_of_list sizes k x (omega (arith, w, long_sum sizes division.inhabited))

  pub reached : IsReached n from sizes
  reached =
      let two = two_teams n sizes division in
      record {
        old = counts_of n k f;
        new = counts_of n k last;
        counts = counts_found n f from k top are;
        within = more_within n n (8 - n) 8 (counts_of n k f) (counts_of n k last) (omega (arith, few)) (within_along f g n k high top low coarse two.0 two.1 two.2 two.3 two.4 n (omega arith));
        new_is = each;
      }
    where
      each : (x : ℕ) → x ≤ 8 → slice_index (counts_of n k last) x ≡ times x sizes
      each zero l = counts_at n k last 0 l ∙ sym (no_empty sizes division.inhabited)
      each (suc x) l = counts_at n k last (suc x) l ∙ reached_at x
