-- The meetings of the nodes of a tree, and a tree at a known cost.
use Rattle.std.specs.Prelude.{ℕ, ◌≡◌, ◌+◌, ◌-◌, ◌*◌, ◌<◌, ◌≤◌, Bool, true, List, [], ◌∷◌, ◌++◌, length, slice_index, sum}
use Rattle.cn_divisions.specs.Divisions.{first, meeting_of}
use Rattle.cn_meetings.specs.Meeting.{IsSightOf, Sight}
use Rattle.cn_meetings.specs.Sights.{sight_of}
use Rattle.cn_meetings.specs.Witness.{IsTeamWitness}
use Rattle.cn_table.specs.TypeTable.{TypeTable}
use Rattle.cn_tree_costs.specs.Cost.{Cost, IsTreeFor, cost}
use Rattle.cn_tree_costs.specs.Sizes.{block, price, sizes_of}
use Rattle.cn_tree_plans.specs.Plan.{NodeMeeting}
use Rattle.cn_trees.specs.Tree.{PlanTree, Teams, members}
use Rattle.cn_trees.specs.Tree.Teams.{Alone, Last, Meet}

-- how the processes of a meeting look, and what it costs each of them
abbrev pub sight_in : NodeMeeting → Sight
sight_in m = sight_of m.sight

abbrev pub price_in : NodeMeeting → ℕ
price_in m = price (sight_in m)

-- two or more teams of these sizes, one after the other, are a witness where all look in this way,
-- which is allowed
pub record IsNode (t : TypeTable) (allowed : Sight → Bool) (sizes : List ℕ) (m : NodeMeeting) : Type 0
  where
    pub is_allowed : allowed (sight_in m) ≡ true
    pub of_type : IsSightOf t (sight_in m)
    pub start : m.start < length t.states
    pub long : length m.operations ≡ sum sizes
    pub operations : (p : ℕ) → p < sum sizes → slice_index m.operations p < length t.operations
    pub several : 2 ≤ length sizes
    pub witness : IsTeamWitness t (meeting_of m.start m.operations (sight_in m)) (first (sum sizes))
        (block sizes)

-- these are the meetings of the nodes below the teams; there each process takes at most b steps, and
-- all together take so many
abbrev pub AreNodes : TypeTable → (Sight → Bool) → ℕ → Teams → List NodeMeeting → ℕ → Type 0
AreNodes t allowed b Last meetings steps = (meetings ≡ []) × (steps ≡ 0)
AreNodes t allowed b (Alone r) meetings steps = AreNodes t allowed b r meetings steps
AreNodes t allowed b (Meet s r) meetings steps = (m : NodeMeeting) × (xs : List NodeMeeting)
    × (ys : List NodeMeeting) × (x : ℕ) × (y : ℕ) × (meetings ≡ m ∷ (xs ++ ys))
    × (steps ≡ x + members s * price_in m + y) × IsNode t allowed (sizes_of s) m × (price_in m ≤ b)
    × AreNodes t allowed (b - price_in m) s xs x × AreNodes t allowed b r ys y

-- these are the meetings of the root, which has these teams, and of the nodes below; each process
-- takes at most b steps, and all together take so many
pub record AreTreeNodes (t : TypeTable) (allowed : Sight → Bool) (b : ℕ) (s : Teams)
    (meetings : List NodeMeeting) (steps : ℕ) : Type 0 where
  pub root : NodeMeeting
  pub below : List NodeMeeting
  pub steps_below : ℕ
  pub split : meetings ≡ root ∷ below
  pub sum_is : steps ≡ steps_below + members s * price_in root
  pub node : IsNode t allowed (sizes_of s) root
  pub within : price_in root ≤ b
  pub are_below : AreNodes t allowed (b - price_in root) s below steps_below

-- a tree of witnesses of the type for n processes, with so many objects and so many steps of all
-- processes together; each takes at most the steps
pub record IsTreeAt (t : TypeTable) (allowed : Sight → Bool) (n : ℕ) (c : Cost) (T : PlanTree)
    : Type 0 where
  pub tree : IsTreeFor t allowed n T
  pub within : (cost T).steps ≤ c.steps
  pub nodes_are : (cost T).nodes ≡ c.nodes
  pub sum_is : (cost T).sum ≡ c.sum
