-- The team of a node as team A of a choice.
use Rattle.std.specs.Prelude.{ℕ, ◌+◌, ◌-◌, ◌++◌, drop, take, nat_lt, if◌then◌else◌}
use Rattle.cn_choice.specs.Canonical.{Choice}
use Rattle.cn_tree_plans.specs.Plan.{NodeMeeting}

-- team A are the processes from the first number on and below the second, team B are the others
abbrev pub turned : NodeMeeting → ℕ → ℕ → Choice
turned m low high = record {
  state = m.start;
  a = take (high - low) (drop low m.operations);
  b = take low m.operations ++ drop high m.operations;
}

-- process k of the node is this process of the choice
abbrev pub role_of : ℕ → ℕ → ℕ → ℕ
role_of low high k =
    if nat_lt k low then (high - low) + k else (if nat_lt k high then k - low else k)
