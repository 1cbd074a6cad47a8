-- What a process of a choice can see, by the team that moves first.
use Rattle.std.specs.Prelude.{ℕ, List, [], ◌∷◌, length, Bool, false, ◌&&◌, ◌==◌, Option, Some, None}
use Rattle.std.specs.Prelude.{if◌then◌else◌, flat_map}
use Rattle.std.specs.List.{list_any, range_with_len}
use Rattle.cn_table.specs.TypeTable.{TypeTable}
use Rattle.cn_choice.specs.Canonical.{Choice, raw_choice_of}
use Rattle.cn_choice.specs.OutcomeSets.{pair_of}
use Rattle.cn_choice.specs.TeamOrders.{orders_of}
use Rattle.cn_choice.specs.declared.team.Team.{Team}
use Rattle.cn_reasons.specs.declared.sight.Sight.{Sight}

-- response r and state q
abbrev pub sight : ℕ → ℕ → Sight
sight r q = record { response = record { 0 = r }; state = record { 0 = q } }

-- what a process sees is the pair of r and q
abbrev pub is_pair : ℕ → ℕ → Option (ℕ × ℕ) → Bool
is_pair r q None = false
is_pair r q (Some pair) = pair.0 == r && pair.1 == q

-- process j sees the pair of r and q in some order that begins in the team
unfoldable pub sees : TypeTable → Choice → Team → ℕ → ℕ → ℕ → Bool
sees t c team j r q =
    list_any (λ order. is_pair r q (pair_of t (raw_choice_of c) order.items j)) (orders_of c team j)

-- the sight, if it passes the test
abbrev pub sight_if : (ℕ → ℕ → Bool) → ℕ → ℕ → List Sight
sight_if test r q = if test r q then sight r q ∷ [] else []

-- the sights of r and a state that pass the test, in the order of the states
abbrev pub sights_if : (ℕ → ℕ → Bool) → ℕ → ℕ → List Sight
sights_if test states r = flat_map (sight_if test r) (range_with_len 0 states)

-- what process j can see where the team is first: by response, then by state
abbrev pub sights : TypeTable → Choice → Team → ℕ → List Sight
sights t c team j =
    flat_map (sights_if (sees t c team j) (length t.states)) (range_with_len 0 (length t.responses))
