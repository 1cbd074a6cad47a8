-- Numbers of classes, each of which is known by its first state.
use Rattle.std.specs.Prelude.{◌≡◌, ℕ, ◌<◌, ◌≤◌, List, length, slice_index}

-- for each place a first one, which is its own
abbrev pub AreOwnFirsts : List ℕ → Type 0
AreOwnFirsts firsts = (q : ℕ) → q < length firsts → (slice_index firsts q ≤ q)
    × (slice_index firsts (slice_index firsts q) ≡ slice_index firsts q)

-- the first ones among the first n places, in order, and for each place the number of its first one
pub record IsNumbering (n : ℕ) (firsts kept class_of : List ℕ) : Type 0 where
  pub long : length class_of ≡ n
  pub few : length kept ≤ n
  pub kept_known : (s : ℕ) → s < length kept → slice_index kept s < n
  pub ascending : (i j : ℕ) → i < j → j < length kept → slice_index kept i < slice_index kept j
  pub known : (q : ℕ) → q < n → slice_index class_of q < length kept
  pub first : (q : ℕ) → q < n → slice_index kept (slice_index class_of q) ≡ slice_index firsts q
  pub own : (s : ℕ) → s < length kept → slice_index class_of (slice_index kept s) ≡ s
