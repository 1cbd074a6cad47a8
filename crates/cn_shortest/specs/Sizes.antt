-- Sizes of teams, by the number of teams of each size.
use Rattle.std.specs.Prelude.{ℕ, zero, suc, ◌≡◌, ◌+◌, ◌≤◌, List, [], ◌∷◌, ◌++◌, length, replicate, slice_index}
use Rattle.cn_choice.specs.declared.limits.TheConstants.{MOST_PROCESSES}
use Rattle.cn_stocks.specs.Words.{times}
use Rattle.cn_tree_costs.specs.Sizes.{IsDivision}

-- the sizes from k down to 1, each as often as there are teams of it
abbrev pub sizes_from : List ℕ → ℕ → List ℕ
sizes_from counts zero = []
sizes_from counts (suc k) = replicate (slice_index counts (suc k)) (suc k) ++ sizes_from counts k

abbrev pub sizes_of : List ℕ → List ℕ
sizes_of counts = sizes_from counts MOST_PROCESSES

-- for each size, how often it stands in the list
pub record AreCounts (list counts : List ℕ) : Type 0 where
  pub long : length counts ≡ MOST_PROCESSES + 1
  pub each : (size : ℕ) → size ≤ MOST_PROCESSES → slice_index counts size ≡ times size list

-- the sizes of two or more teams of n processes
pub record AreOf (n : ℕ) (counts : List ℕ) : Type 0 where
  pub long : length counts ≡ MOST_PROCESSES + 1
  pub division : IsDivision n (sizes_of counts)

-- how often x stands in the list of a and b
abbrev pub times_of_both : ℕ → ℕ → ℕ → ℕ
times_of_both x a b = times x (a ∷ b ∷ [])

-- there are a team of size a and another one of size b
abbrev pub HasBoth : List ℕ → ℕ → ℕ → Type 0
HasBoth counts a b = (x : ℕ) → x ≤ MOST_PROCESSES → times_of_both x a b ≤ slice_index counts x

-- these two teams have become one
pub record AreMerged (old : List ℕ) (a b : ℕ) (new : List ℕ) : Type 0 where
  pub long : length new ≡ MOST_PROCESSES + 1
  pub each : (x : ℕ) → x ≤ MOST_PROCESSES
      → slice_index new x + times_of_both x a b ≡ slice_index old x + times x ((a + b) ∷ [])
