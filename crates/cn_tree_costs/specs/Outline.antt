-- Outlines of plan trees: how the processes look at each node, and the sizes of the teams. New here.
use Rattle.std.specs.Prelude.{ℕ, ◌≡◌, ◌+◌, ◌*◌, max, Bool, true, List, [], ◌∷◌}
use Rattle.cn_table.specs.TypeTable.{TypeTable}
use Rattle.cn_meetings.specs.Meeting.{Sight}
use Rattle.cn_tree_costs.specs.Sizes.{HasSizes, IsDivision, price}

-- the teams of a node, one after the other
pub data Outline : Type 0 where
  -- no more teams
  End : Outline
  -- a team of one process, and further teams
  One : Outline → Outline
  -- a team of the processes of a node below, at which they look in this way in the first teams; and
  -- further teams
  Group : Sight → Outline → Outline → Outline

-- the number of processes
abbrev pub members_in : Outline → ℕ
members_in End = 0
members_in (One r) = 1 + members_in r
members_in (Group sight s r) = members_in s + members_in r

-- the sizes of the teams
abbrev pub sizes_in : Outline → List ℕ
sizes_in End = []
sizes_in (One r) = 1 ∷ sizes_in r
sizes_in (Group sight s r) = members_in s ∷ sizes_in r

-- the greatest number of own steps at nodes below
abbrev pub steps_in : Outline → ℕ
steps_in End = 0
steps_in (One r) = steps_in r
steps_in (Group sight s r) = max (steps_in s + price sight) (steps_in r)

-- the number of nodes below
abbrev pub groups_in : Outline → ℕ
groups_in End = 0
groups_in (One r) = groups_in r
groups_in (Group sight s r) = 1 + groups_in s + groups_in r

-- the own steps of all processes at nodes below
abbrev pub sum_in : Outline → ℕ
sum_in End = 0
sum_in (One r) = sum_in r
sum_in (Group sight s r) = sum_in s + members_in s * price sight + sum_in r

-- at each node the processes look in a way that is allowed, and a witness has two or more teams of
-- these sizes, none of them empty
abbrev pub AreGroups : TypeTable → (Sight → Bool) → Outline → Type 0
AreGroups t allowed End = Unit {0}
AreGroups t allowed (One r) = AreGroups t allowed r
AreGroups t allowed (Group sight s r) = (allowed sight ≡ true) × HasSizes t sight (sizes_in s)
    × IsDivision (members_in s) (sizes_in s) × AreGroups t allowed s × AreGroups t allowed r
