-- The sights of a plan tree, and what is seen by them.
use Rattle.std.specs.Prelude.{ℕ, ◌≡◌, ◌+◌, ◌<◌, Bool, true, length, slice_index_or}
use Rattle.cn_table.specs.TypeTable.{TypeTable}
use Rattle.cn_meetings.specs.Meeting.{Sight}
use Rattle.cn_meetings.specs.Meeting.Sight.{Nothing, Response, State}
use Rattle.cn_meetings.specs.Sights.{sight_of}
use Rattle.cn_trees.specs.Tree.{nodes_in}
use Rattle.cn_tree_plans.specs.Plan.{TreePlan, no_meeting}

-- what is seen by a sight of the type is below this number
abbrev pub seen_count : TypeTable → Sight → ℕ
seen_count t State = length t.states
seen_count t Nothing = 1
seen_count t (Response o) = length t.responses

-- the processes of each node look in one of these ways
abbrev pub HasSights : (Sight → Bool) → TreePlan → Type 0
HasSights allowed plan = (v : ℕ) → v < 1 + nodes_in plan.teams
    → allowed (sight_of (slice_index_or plan.meetings v no_meeting).sight) ≡ true
