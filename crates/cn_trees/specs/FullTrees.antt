-- Full trees of operations that part. New here.
use Rattle.std.specs.Prelude.{ℕ, zero, suc, ◌*◌}
use Rattle.cn_table.specs.TypeTable.{TypeTable}
use Rattle.cn_meetings.specs.Parting.{Parting, parting_judge, parting_meeting}
use Rattle.cn_trees.specs.Tree.{PlanTree, Teams, team_in}
use Rattle.cn_trees.specs.Tree.Teams.{Alone, Last, Meet}

-- k teams of one process each
abbrev pub singles : ℕ → Teams
singles zero = Last
singles (suc k) = Alone (singles k)

-- k teams, each of the processes of a node of these teams
abbrev pub copies : ℕ → Teams → Teams
copies zero s = Last
copies (suc k) s = Meet s (copies k s)

-- the teams of the tree with k teams at each node and h levels below the root's
abbrev pub full : ℕ → ℕ → Teams
full k zero = singles k
full k (suc h) = copies k (full k h)

abbrev pub power : ℕ → ℕ → ℕ
power k zero = 1
power k (suc h) = k * power k h

-- at each node each process applies the operation of its team
abbrev pub parting_tree : TypeTable → Teams → Parting → PlanTree
parting_tree t s w = record {
  table = t;
  teams = s;
  meeting = λ node. parting_meeting w (team_in s node);
  judge = λ node. parting_judge w (team_in s node);
}
