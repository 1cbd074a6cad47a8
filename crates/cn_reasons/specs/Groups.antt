-- The processes of a choice in groups: neighbours of one team with the same operation.
use Rattle.std.specs.Prelude.{ℕ, ◌+◌, ◌-◌, ◌<◌, List, [], ◌∷◌, ◌++◌, length, Bool, not, ◌||◌, ◌==◌}
use Rattle.std.specs.Prelude.{drop, All, flat_map, if◌then◌else◌, slice_index}
use Rattle.std.specs.List.{prefix_len, range_with_len}
use Rattle.cn_choice.specs.Canonical.{Choice}
use Rattle.cn_choice.specs.declared.team.Team.{Team}
use Rattle.cn_choice.specs.declared.team.Team.TheVariants.{A, B}
use Rattle.cn_reasons.specs.declared.group.ChoiceGroups.{ChoiceGroups}
use Rattle.cn_reasons.specs.declared.group.Group.{Group}

-- the number of operations, from the first on, that are this one
abbrev pub alike : List ℕ → ℕ → ℕ
alike operations own = prefix_len (λ other. other == own) operations

-- place k of a team is the first, or has another operation than the place before it
abbrev pub begins_group : List ℕ → ℕ → Bool
begins_group operations k =
    k == 0 || not (slice_index operations (k - 1) == slice_index operations k)

-- place k of a team, whose first process has this number, with the places right behind it that have
-- the same operation
abbrev pub group_at : Team → ℕ → List ℕ → ℕ → Group
group_at team first operations k = record {
  team = team;
  first = first + k;
  count = alike (drop k operations) (slice_index operations k);
  operation = record { 0 = slice_index operations k };
}

-- the group that begins at place k, if one does
abbrev pub group_if : Team → ℕ → List ℕ → ℕ → List Group
group_if team first operations k =
    if begins_group operations k then group_at team first operations k ∷ [] else []

-- the groups of a team with these operations, whose first process has this number
abbrev pub groups : Team → ℕ → List ℕ → List Group
groups team first operations =
    flat_map (group_if team first operations) (range_with_len 0 (length operations))

-- the groups of a choice: those of team A, and then those of team B
abbrev pub groups_of : Choice → List Group
groups_of c = groups A 0 c.a ++ groups B (length c.a) c.b

-- a choice, with its processes in groups
abbrev pub choice_groups : Choice → ChoiceGroups
choice_groups c = record {
  start = record { 0 = c.state };
  a = record { items = groups A 0 c.a };
  b = record { items = groups B (length c.a) c.b };
}

-- each group begins with one of n processes
pub record AreWithin (n : ℕ) (c : ChoiceGroups) : Type 0 where
  pub a : All (λ g. g.first < n) c.a.items
  pub b : All (λ g. g.first < n) c.b.items
