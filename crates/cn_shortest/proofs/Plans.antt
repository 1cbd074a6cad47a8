-- The plan of the teams and the meetings that were built is a least one.
use Rattle.std.proofs.Common.{ℕ, ◌≡◌, Bool, true, List, [], ◌++◌, length, refl, sym, ap, ◌∙◌, subst, Option, Some, None}
use Rattle.cn_meetings.specs.Meeting.{Sight}
use Rattle.cn_meetings.specs.Meeting.Sight.{Nothing}
use Rattle.cn_table.specs.TypeTable.{TypeTable}
use Rattle.cn_tree_costs.specs.Cost.{IsLeastPlan, cost}
use Rattle.cn_tree_costs.specs.Least.{Load}
use Rattle.cn_tree_plans.specs.Made.{IsFirstMeeting}
use Rattle.cn_tree_plans.specs.Plan.{AreMeetings, NodeMeeting, TreePlan, tree_of, tree_with}
use Rattle.cn_tree_plans.specs.Teams.{AreProper}
use Rattle.cn_tree_plans.proofs.PlanLemmas.{ComesIs, TeamIs}
use Rattle.cn_trees.specs.Tree.{AreWitnesses, IsOfType, PlanTree, Teams}
use Rattle.cn_shortest.specs.Built.{AddsNode}
use Rattle.cn_shortest.specs.Costs.{IsLeastCost, IsLeastPlanFound}
use Rattle.cn_shortest.specs.Looks.{allowed}
use Rattle.cn_shortest.specs.Nodes.{AreTreeNodes, IsTreeAt}
use Rattle.cn_shortest.specs.Searches.{HaveExamples}
use Rattle.cn_tree_plans.specs.declared.plan.Cost.{Cost}
use Rattle.cn_shortest.specs.declared.looks.Looks.{Looks}
use Rattle.cn_shortest.specs.declared.looks.Looks.TheVariants.{AtNothing, AtResponses, AtStates}
use Rattle.cn_shortest.specs.declared.roots.Roots.{Roots}
use Rattle.cn_shortest.proofs.Trees.{least_plan, meetings_are, never_meets, proper_is, tree_at}

module _ (t : TypeTable) (roots : List Roots) (n b : ℕ) (x : Load) (s : Teams) (old new : List NodeMeeting) (none : old ≡ []) (allow : Sight → Bool) (have : HaveExamples t allow roots) (adds : AddsNode roots n b x s old new) where
  nodes : AreTreeNodes t allow b s new x.sum
  nodes = subst (λ ms. AreTreeNodes t allow b s ms x.sum) (sym (adds.1 ∙ ap (λ l. l ++ adds.0) none)) (adds.2.are t allow have)

  pub proper_built : AreProper s
  proper_built = proper_is t allow b s new x.sum nodes

  pub meetings_built : AreMeetings t s new
  meetings_built = meetings_are t allow b s new x.sum nodes

  pub never_refused : ComesIs → TeamIs → (v p : ℕ) → IsFirstMeeting (tree_with t s new) v p → ⊥
  never_refused comes_is team_is v p = never_meets t allow b s new x.sum nodes comes_is team_is v p

  -- if a least plan has this load
  pub least_built : (plan : TreePlan) → allow Nothing ≡ true → plan.table ≡ t → plan.teams ≡ s → plan.meetings ≡ new → AreWitnesses (tree_of plan) → IsOfType (tree_of plan)
      → ((U : PlanTree) × IsLeastPlan t allow n U × (cost U ≡ record { steps = b; nodes = x.nodes; sum = x.sum })) → IsLeastPlan t allow n (tree_of plan)
  least_built plan nobody table teams meetings witnesses of_type other =
      let long : length new ≡ x.nodes = meetings_built.count ∙ adds.2.nodes_are in
      let is : IsTreeAt t allow n (record { steps = b; nodes = x.nodes; sum = x.sum }) (tree_of plan) =
      subst (λ k. IsTreeAt t allow n (record { steps = b; nodes = k; sum = x.sum }) (tree_of plan)) long (tree_at t allow b n s new x.sum plan nobody nodes adds.2.count table teams meetings witnesses of_type) in
      least_plan t allow n (record { steps = b; nodes = x.nodes; sum = x.sum }) (tree_of plan) is other

-- ---- what the search answers
pub none_found : (t : TypeTable) (allow : Sight → Bool) (n : ℕ) (found : Option Cost) → found ≡ None → IsLeastCost t allow n found → IsLeastPlanFound t allow n None
none_found t allow n None e is = record { plan = tt; some = is.some }
none_found t allow n (Some c) e is = absurd cc

pub some_found : (t : TypeTable) (allow : Sight → Bool) (n : ℕ) (plan : TreePlan) → IsLeastPlan t allow n (tree_of plan) → IsLeastPlanFound t allow n (Some plan)
some_found t allow n plan least = record { plan = least; some = (λ e. (tree_of plan, least.tree), λ h. refl) }

-- ---- nobody looks where there is no node
pub nobody_looks : (looks : Looks) → allowed looks Nothing ≡ true
nobody_looks AtStates = refl
nobody_looks AtResponses = refl
nobody_looks AtNothing = refl
