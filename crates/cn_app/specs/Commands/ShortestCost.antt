-- How short the plans of a type get.
use Rattle.std.specs.Prelude.{◌≡◌, None, Option, MatchOption}
use Rattle.cn_table.specs.TypeTable.{TypeTable}
use Rattle.cn_sentences.specs.declared.shortest.ShortestCost.{ShortestCost}
use Rattle.cn_tree_costs.specs.Cost.{IsLeastPlan, cost}
use Rattle.cn_trees.specs.Tree.{PlanTree}
use Rattle.cn_shortest.specs.Looks.{allowed}
use Rattle.cn_shortest.specs.declared.looks.Looks.TheVariants.{AtStates}
use Rattle.cn_io.specs.Arguments.Lives.{CanBe}
use Rattle.cn_app.specs.Commands.Shortest.{HasNoPlan, IsCount}

-- what the shortest plan costs for the most processes for which there is a plan tree
pub record IsShortestCost (t : TypeTable) (c : ShortestCost) : Type 0 where
  pub possible : CanBe c.processes
  pub count : IsCount t AtStates None c.processes
  pub tree : PlanTree
  pub least : IsLeastPlan t (allowed AtStates) c.processes tree
  pub steps : (cost tree).steps ≡ c.steps
  pub objects : (cost tree).nodes ≡ c.objects

-- this is told, unless there is no plan tree
abbrev pub TellsShortest : TypeTable → Option ShortestCost → Type 0
TellsShortest t shortest = MatchOption shortest (HasNoPlan t AtStates None) (IsShortestCost t)
