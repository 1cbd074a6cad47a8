-- Runs that go on from a point: a set of processes that have moved, and a state of the object.
use Rattle.std.specs.Prelude.{◌≡◌, ℕ, ◌^◌, ◌<◌, ◌⊎◌, List, length, nat_eq, Some, bit_or}
use Rattle.std.specs.Int.{bit_at}
use Rattle.std.specs.List.{AllByRecursion, IsDistinct}
use Rattle.cn_table.specs.Run.{responses_along, state_after}
use Rattle.cn_table.specs.TypeTable.{TypeTable}
use Rattle.cn_choice.specs.RawChoices.{RawChoice}
use Rattle.cn_choice.specs.OutcomeSets.{operations_of, response_of}
use Rattle.cn_choice.specs.Moves.{move_of}

-- the number is in the set; the bits of a number are a set of small numbers
abbrev pub IsIn : ℕ → ℕ → Type 0
IsIn set k = bit_at set k ≡ 1

-- the set of the processes that have moved, with one more
abbrev pub with_mover : ℕ → ℕ → ℕ
with_mover used p = bit_or used (2 ^ p)

-- the moves of some of n processes: none of them has moved before, and none moves twice
pub record AreMoves (n used : ℕ) (moves : List ℕ) : Type 0 where
  pub known : AllByRecursion (λ p. p < n) moves
  pub distinct : IsDistinct nat_eq moves
  pub fresh : AllByRecursion (λ p. ¬ IsIn used p) moves

-- some such moves, or none, leave the object in state q
abbrev pub EndsIn : TypeTable → RawChoice → ℕ → ℕ → ℕ → Type 0
EndsIn t c used state q = (moves : List ℕ) × AreMoves (length c.operations) used moves
    × (state_after t state (operations_of c moves) ≡ q)

-- by some such moves process j gets response r, and the object is left in state q
abbrev pub ShowsFrom : TypeTable → RawChoice → ℕ → ℕ → ℕ → ℕ → ℕ → Type 0
ShowsFrom t c used state j r q =
    (moves : List ℕ) × AreMoves (length c.operations) used moves
    × (response_of j moves (responses_along t state (operations_of c moves)) ≡ Some r)
    × (state_after t state (operations_of c moves) ≡ q)

-- the same by moves that begin with process p: p is j and gets r, or the moves after it show the
-- pair
abbrev pub ShowsBy : TypeTable → RawChoice → ℕ → ℕ → ℕ → ℕ → ℕ → ℕ → Type 0
ShowsBy t c used state p j r q =
    let move = move_of t c p state in
    ShowsFrom t c (with_mover used p) move.1 j r q
    ⊎ ((j ≡ p) × (r ≡ move.0) × EndsIn t c (with_mover used p) move.1 q)
