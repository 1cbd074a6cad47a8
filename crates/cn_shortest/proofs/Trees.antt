-- The meetings of all nodes of a tree make a plan tree, at a known cost.
use Rattle.std.proofs.Common.{ℕ, zero, suc, ◌≡◌, ◌+◌, ◌-◌, ◌*◌, ◌<◌, ◌≤◌, ◌⊎◌, inl, inr, Bool, true, ◌∷◌, length, List, refl, sym, ap, ◌∙◌, subst, arith}
use Rattle.std.specs.Prelude.{sum}
use Rattle.std.proofs.lemmas.Bool.{cases_lt}
use Rattle.std.proofs.lemmas.Bool.Decides.{nat_tests}
use Rattle.cn_divisions.specs.Divisions.{first, meeting_of}
use Rattle.std.proofs.Math.ListN.{get_or-eq_default}
use Rattle.cn_meetings.specs.Meeting.{Sight}
use Rattle.cn_meetings.specs.Meeting.Sight.{Nothing}
use Rattle.cn_meetings.specs.Witness.{Has, IsTeamWitness}
use Rattle.cn_meetings.proofs.Renaming.{renaming}
use Rattle.cn_meetings.proofs.Witnesses.{joined_decide}
use Rattle.cn_table.specs.TypeTable.{TypeTable}
use Rattle.cn_tree_costs.specs.Cost.{Cost, IsLeastPlan, IsLess, cost}
use Rattle.cn_tree_costs.specs.Nodes.{node_at}
use Rattle.cn_tree_costs.specs.Sizes.{block, price, sizes_of}
use Rattle.cn_tree_plans.specs.Made.{IsFirstMeeting}
use Rattle.cn_tree_plans.specs.Plan.{AreMeetings, NodeMeeting, TreePlan, meeting_in, no_meeting, tree_of, tree_with}
use Rattle.cn_tree_plans.specs.Teams.{AreProper}
use Rattle.cn_tree_plans.proofs.PlanLemmas.{ComesIs, TeamIs, sizes_sum}
use Rattle.cn_trees.specs.Consensus.{steps_of}
use Rattle.cn_trees.specs.Tree.{AreWitnesses, IsOfType, PlanTree, Teams, comes_to, members, nodes_in, processes_of, team_in}
use Rattle.cn_shortest.specs.Nodes.{AreTreeNodes, IsNode, IsTreeAt, price_in, sight_in}
use Rattle.cn_shortest.proofs.Nodes.{at, node_is, nodes_long, several_below, steps_sum, steps_within}
use Rattle.cn_tree_costs.proofs.Steps.{steps_are, under}
use Rattle.cn_tree_costs.proofs.Numbers.{greatest_within, total_plus, total_same}

module _ (t : TypeTable) (allowed : Sight → Bool) (b : ℕ) (s : Teams) (ms : List NodeMeeting) (steps : ℕ) (are : AreTreeNodes t allowed b s ms steps) where
  below_long : length are.below ≡ nodes_in s
  below_long = nodes_long t allowed (b - price_in are.root) s are.below are.steps_below are.are_below

  all_long : length ms ≡ 1 + nodes_in s
  all_long = omega (arith, ap length are.split, below_long)

  node_here : (v : ℕ) → v < 1 + nodes_in s → IsNode t allowed (sizes_of (node_at s v).teams) (at ms v)
  node_here v l = subst (λ ms. IsNode t allowed (sizes_of (node_at s v).teams) (at ms v)) (sym are.split) (inside v l)
    where
      inside : (v : ℕ) → v < 1 + nodes_in s → IsNode t allowed (sizes_of (node_at s v).teams) (at (are.root ∷ are.below) v)
      inside zero l = are.node
      inside (suc v) l = node_is t allowed (b - price_in are.root) s are.below are.steps_below are.are_below v (omega arith)

  -- where there is no node, nobody looks
  pub sights_are : allowed Nothing ≡ true → (v : ℕ) → allowed (sight_in (at ms v)) ≡ true
  sights_are nobody v = elim (cases_lt v (1 + nodes_in s)) [
    | inl l ↦ (node_here v l).is_allowed
    | inr l ↦ ap (λ m. allowed (sight_in m)) (get_or-eq_default ms no_meeting (omega (arith, l, all_long))) ∙ nobody
  ]

  -- ---- what a plan tree is made of
  pub proper_is : AreProper s
  proper_is = record { several = are.node.several; below = several_below t allowed (b - price_in are.root) s are.below are.steps_below are.are_below }

  pub meetings_are : AreMeetings t s ms
  meetings_are = record {
    count = all_long;
    starts = λ v l. (node_here v l).start;
    sights = λ v l. (node_here v l).of_type;
    sizes = λ v l. (node_here v l).long ∙ sizes_sum (node_at s v).teams;
    operations = λ v k l u. (node_here v l).operations k (omega (arith, sizes_sum (node_at s v).teams));
  }

  module _ (comes_is : ComesIs) (team_is : TeamIs) where
    witness_here : (v : ℕ) → v < 1 + nodes_in s → IsTeamWitness t (meeting_in s ms v) (comes_to s v) (team_in s v)
    witness_here v l =
        let x = node_at s v in
        let m = at ms v in
        let moved : IsTeamWitness t (meeting_in s ms v) (comes_to s v) (λ p. block (sizes_of x.teams) (p - x.first)) =
        renaming t (meeting_of m.start m.operations (sight_in m)) (first (sum (sizes_of x.teams))) (comes_to s v) (λ p. p - x.first) (inside v) (apart v) (block (sizes_of x.teams)) (node_here v l).witness in
        (joined_decide t (meeting_in s ms v) (comes_to s v) (team_in s v)).1 (λ p q j.
        team_is s v p (j.shown_p.is_order.members 0 p refl)
        ∙ ((joined_decide t (meeting_in s ms v) (comes_to s v) (λ p. block (sizes_of x.teams) (p - x.first))).0 moved p q j ∙ sym (team_is s v q (j.shown_q.is_order.members 0 q refl))))
      where
        inside : (v p : ℕ) → Has (comes_to s v) p → Has (first (sum (sizes_of (node_at s v).teams))) (p - (node_at s v).first)
        inside v p h =
            let among = (comes_is s v p).0 h in
            let a = among.0 in let c = among.1 in
            let k : p - (node_at s v).first < sum (sizes_of (node_at s v).teams) = omega (arith, sizes_sum (node_at s v).teams) in
            grind (arith, nat_tests)

        apart : (v p q : ℕ) → Has (comes_to s v) p → Has (comes_to s v) q → p - (node_at s v).first ≡ q - (node_at s v).first → p ≡ q
        apart v p q hp hq e = (let a = ((comes_is s v p).0 hp).0 in let c = ((comes_is s v q).0 hq).0 in omega arith)

    -- at no node two teams show a process the same
    pub never_meets : (v p : ℕ) → IsFirstMeeting (tree_with t s ms) v p → ⊥
    never_meets v p meets =
        let twice = meets.meets in
        twice.apart (witness_here v meets.node twice.team twice.other p twice.response twice.saw twice.shown.0 twice.shown_again.0 twice.shown.1 twice.shown_again.1 twice.shown.2 twice.shown_again.2)

-- ---- the cost
module _ (t : TypeTable) (allowed : Sight → Bool) (b steps : ℕ) (plan : TreePlan) (are : AreTreeNodes t allowed b plan.teams plan.meetings steps) where
  abbrev s : Teams
  s = plan.teams

  abbrev prices : ℕ → ℕ
  prices v = price (sight_in (at plan.meetings v))

  root_price : prices 0 ≡ price_in are.root
  root_price = ap (λ l. price_in (at l 0)) are.split

  priced : (v : ℕ) → v < nodes_in s → prices (1 + v) ≡ price_in (at are.below v)
  priced v l = (let e : 1 + v ≡ suc v = omega arith in ap prices e ∙ ap (λ l. price_in (at l (suc v))) are.split)

  own_steps : (p : ℕ) → p < members s → steps_of (tree_of plan) p ≡ under prices s 1 p + price_in are.root
  own_steps p l = steps_are (tree_of plan) (λ v. sight_in (at plan.meetings v)) (λ v q h. refl) p l ∙ ap (λ k. under prices s 1 p + k) root_price

  pub steps_most : (cost (tree_of plan)).steps ≤ b
  steps_most = greatest_within (steps_of (tree_of plan)) (members s) b (λ p l.
      let within = are.within in
      omega (arith, own_steps p l, steps_within t allowed prices (b - price_in are.root) 1 s are.below are.steps_below are.are_below priced p l))

  pub sum_of : (cost (tree_of plan)).sum ≡ steps
  sum_of =
      total_same (steps_of (tree_of plan)) (λ p. under prices s 1 p + price_in are.root) (members s) own_steps
      ∙ (total_plus (under prices s 1) (price_in are.root) (members s)
      ∙ (ap (λ k. k + members s * price_in are.root) (steps_sum t allowed prices (b - price_in are.root) 1 s are.below are.steps_below are.are_below priced) ∙ sym are.sum_is))

-- a plan of these meetings is a tree at this cost
pub tree_at : (t : TypeTable) (allowed : Sight → Bool) (b n : ℕ) (s : Teams) (ms : List NodeMeeting) (steps : ℕ) (plan : TreePlan) → allowed Nothing ≡ true → AreTreeNodes t allowed b s ms steps
    → members s ≡ n → plan.table ≡ t → plan.teams ≡ s → plan.meetings ≡ ms → AreWitnesses (tree_of plan) → IsOfType (tree_of plan)
    → IsTreeAt t allowed n (record { steps = b; nodes = length ms; sum = steps }) (tree_of plan)
tree_at t allowed b n s ms steps plan nobody are many table teams meetings witnesses of_type =
    let here : AreTreeNodes t allowed b plan.teams plan.meetings steps =
    subst (λ s. AreTreeNodes t allowed b s plan.meetings steps) (sym teams) (subst (λ ms. AreTreeNodes t allowed b s ms steps) (sym meetings) are) in
    record {
      tree = record {
        table = table;
        processes = ap members teams ∙ many;
        witnesses = witnesses;
        of_type = of_type;
        uniform = λ v. (sight_in (at plan.meetings v), sights_are t allowed b plan.teams plan.meetings steps here nobody v, λ p h. refl);
      };
      within = steps_most t allowed b steps plan here;
      nodes_are = omega (arith, all_long t allowed b s ms steps are, ap nodes_in teams);
      sum_is = sum_of t allowed b steps plan here;
    }

-- ---- a tree at the cost of a least plan is one
not_less : (c d : Cost) → c.steps ≤ d.steps → c.nodes ≡ d.nodes → c.sum ≡ d.sum → (IsLess c d → ⊥) → c ≡ d
not_less c d within nodes_are sum_is not = λ i. record { steps = equal (cases_lt c.steps d.steps) i; nodes = nodes_are i; sum = sum_is i }
  where
    equal : (c.steps < d.steps) ⊎ (d.steps ≤ c.steps) → c.steps ≡ d.steps
    equal (inl l) = absurd (not (inl l))
    equal (inr l) = omega arith

module _ (t : TypeTable) (allowed : Sight → Bool) (n : ℕ) (c : Cost) (T : PlanTree) (is : IsTreeAt t allowed n c T) (other : (U : PlanTree) × IsLeastPlan t allowed n U × (cost U ≡ c)) where
  pub cost_is : cost T ≡ c
  cost_is = not_less (cost T) c is.within is.nodes_are is.sum_is (λ l. other.1.least T is.tree (subst (IsLess (cost T)) (sym other.2) l))

  pub least_plan : IsLeastPlan t allowed n T
  least_plan = record {
    tree = is.tree;
    least = λ V tree l. other.1.least V tree (subst (IsLess (cost V)) (cost_is ∙ sym other.2) l);
  }
