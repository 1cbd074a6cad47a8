-- The trees below the root of a tree.
use Rattle.std.proofs.Common.{ℕ, zero, suc, ◌≡◌, Bool, true, false, ◌+◌, ◌-◌, ◌*◌, ◌<◌, ◌≤◌, List, ◌∷◌, map, refl, sym, ap, ap₂, ◌∙◌, subst, arith, nat_lt}
use Rattle.std.specs.Prelude.{sum}
use Rattle.std.proofs.lemmas.Bool.Decides.{nat_tests}
use Rattle.cn_table.specs.TypeTable.{TypeTable}
use Rattle.cn_meetings.specs.Meeting.{Sight}
use Rattle.cn_trees.specs.Consensus.{steps_of}
use Rattle.cn_trees.specs.Tree.{AreWitnesses, IsOfType, PlanTree, Teams, members, nodes_in}
use Rattle.cn_trees.specs.Tree.Teams.{Alone, Last, Meet}
use Rattle.cn_tree_costs.specs.Branches.{AreBranches, all_nodes, all_steps, branches_from, branches_of, greatest_steps, joined_cost, size_of}
use Rattle.cn_tree_costs.specs.Cost.{IsTreeFor, IsUniform, cost, greatest, total}
use Rattle.cn_tree_costs.specs.Nodes.{Node, behind, node_at, node_below, tree_at}
use Rattle.cn_tree_costs.specs.Sizes.{HasSizes, sizes_of}
use Rattle.cn_tree_costs.proofs.Growing.{same_cost}
use Rattle.cn_tree_costs.proofs.Joining.{under_shift}
use Rattle.cn_tree_costs.proofs.Numbers.{greatest_append, greatest_plus, greatest_same, sizes_sum, total_append, total_plus, total_same}
use Rattle.cn_tree_costs.proofs.Outlines.{own_has, own_prices, own_sights, own_steps}
use Rattle.cn_tree_costs.proofs.Steps.{steps_are, under, under_first, under_later}
use Rattle.cn_tree_costs.proofs.SubTrees.{comes_above, same_node, sub_tree}

pub are_branches : (t : TypeTable) (allowed : Sight → Bool) (n : ℕ) (T : PlanTree) → IsTreeFor t allowed n T → (u : Teams) (v : ℕ) → AreBranches t allowed (branches_from T u v)
are_branches t allowed n T tree Last v = tt
are_branches t allowed n T tree (Alone r) v = are_branches t allowed n T tree r v
are_branches t allowed n T tree (Meet s r) v = (sub_tree t allowed n T v tree, are_branches t allowed n T tree r (v + 1 + nodes_in s))

-- these teams are a part of the tree: their nodes have numbers from this one on, and their processes
abbrev IsPart : Teams → Teams → ℕ → ℕ → Type 0
IsPart whole u next k = (v : ℕ) → v < nodes_in u → node_at whole (next + v) ≡ behind k (node_below u v)

part_teams : (whole s r : Teams) (next k : ℕ) → IsPart whole (Meet s r) next k → (node_at whole next).teams ≡ s
part_teams whole s r next k part = let e : next + zero ≡ next = omega arith in ap (λ (x : Node). x.teams) (sym (ap (node_at whole) e) ∙ part zero (omega arith))

part_later : (whole s r : Teams) (next k : ℕ) → IsPart whole (Meet s r) next k → IsPart whole r (next + 1 + nodes_in s) (k + members s)
part_later whole s r next k part v lv =
    let e : next + 1 + nodes_in s + v ≡ next + suc (nodes_in s + v) = omega arith in
    let lt : nat_lt (nodes_in s + v) (nodes_in s) ≡ false = grind (arith, nat_tests) in
    let same : nodes_in s + v - nodes_in s ≡ v = omega arith in
    ap (node_at whole) e ∙ (part (suc (nodes_in s + v)) (omega arith) ∙ rw (lt, same) (same_node (k + (members s + (node_below r v).first)) (k + members s + (node_below r v).first) (node_below r v).teams (omega arith)))

module _ (allowed : Sight → Bool) (T : PlanTree) (witnesses : AreWitnesses T) (of_type : IsOfType T) (uniform : IsUniform allowed T) where
  abbrev prices : ℕ → ℕ
  prices = own_prices allowed T witnesses of_type uniform

  sub_steps : (next p : ℕ) → p < members (node_at T.teams next).teams → steps_of (tree_at T next) p ≡ under (λ w. prices (next + w)) (node_at T.teams next).teams 1 p + prices (next + 0)
  sub_steps next p lp = steps_are (tree_at T next) (λ w. own_sights allowed T witnesses of_type uniform (next + w)) (λ w q h. (uniform (next + w)).2 ((node_at T.teams next).first + q) (comes_above T.teams next w q h)) p lp

  branch_steps : (s r : Teams) (next k : ℕ) → IsPart T.teams (Meet s r) next k → (p : ℕ) → p < members s → steps_of (tree_at T next) p ≡ under prices (Meet s r) next p
  branch_steps s r next k part p lp =
      let teams = part_teams T.teams s r next k part in
      let root : prices (next + 0) ≡ prices next = ap prices (omega arith) in
      let below : under (λ w. prices (next + w)) (node_at T.teams next).teams 1 p ≡ under prices s (next + 1) p =
      ap (λ u. under (λ w. prices (next + w)) u 1 p) teams ∙ under_shift (λ w. prices (next + w)) prices s 1 (next + 1) (λ v lv. ap prices (omega arith)) p in
      sub_steps next p (subst (λ u. p < members u) (sym teams) lp) ∙ (ap₂ (λ (a : ℕ) b. a + b) below root ∙ sym (under_first prices s r next p lp))

  abbrev Parts : Teams → ℕ → Type 0
  Parts u next =
      (map size_of (branches_from T u next) ≡ sizes_of u) × (nodes_in u ≡ all_nodes (branches_from T u next)) × (greatest (under prices u next) (members u) ≡ greatest_steps (branches_from T u next))
      × (total (under prices u next) (members u) ≡ all_steps (branches_from T u next))

  parts : (u : Teams) (next k : ℕ) → IsPart T.teams u next k → Parts u next
  parts Last next k part = (refl, refl, refl, refl)
  parts (Alone r) next k part =
      let h = parts r next (k + 1) (λ v lv. part v lv ∙ same_node (k + (1 + (node_below r v).first)) (k + 1 + (node_below r v).first) (node_below r v).teams (omega arith)) in
      let b = h.1 in let g = h.2 in let s = h.3 in (
        ap (λ (x : List ℕ). 1 ∷ x) h.0,
        omega arith,
        omega (arith, greatest_append (under prices (Alone r) next) 1 (members r), greatest_same (λ i. under prices (Alone r) next (1 + i)) (under prices r next) (members r) (λ i lt. later i)),
        omega (arith, total_append (under prices (Alone r) next) 1 (members r), total_same (λ i. under prices (Alone r) next (1 + i)) (under prices r next) (members r) (λ i lt. later i)),
      )
    where
      later : (i : ℕ) → under prices (Alone r) next (1 + i) ≡ under prices r next i
      later i = let e : 1 + i ≡ suc i = omega arith in rw e refl
  parts (Meet s r) next k part =
      let h = parts r (next + 1 + nodes_in s) (k + members s) (part_later T.teams s r next k part) in
      let teams = part_teams T.teams s r next k part in
      let size : members (node_at T.teams next).teams ≡ members s = ap members teams in
      let nodes : nodes_in (node_at T.teams next).teams ≡ nodes_in s = ap nodes_in teams in
      let own_greatest : greatest (steps_of (tree_at T next)) (members (node_at T.teams next).teams) ≡ greatest (under prices (Meet s r) next) (members s) =
      ap (greatest (steps_of (tree_at T next))) size ∙ greatest_same (steps_of (tree_at T next)) (under prices (Meet s r) next) (members s) (branch_steps s r next k part) in
      let own_total : total (steps_of (tree_at T next)) (members (node_at T.teams next).teams) ≡ total (under prices (Meet s r) next) (members s) =
      ap (total (steps_of (tree_at T next))) size ∙ total_same (steps_of (tree_at T next)) (under prices (Meet s r) next) (members s) (branch_steps s r next k part) in
      let b = h.1 in let g = h.2 in let y = h.3 in (
        ap₂ (λ (m : ℕ) (x : List ℕ). m ∷ x) size h.0,
        omega arith,
        omega (
          arith,
          greatest_append (under prices (Meet s r) next) (members s) (members r),
          greatest_same (λ i. under prices (Meet s r) next (members s + i)) (under prices r (next + 1 + nodes_in s)) (members r) (λ i lt. under_later prices s r next i),
        ),
        omega (
          arith,
          total_append (under prices (Meet s r) next) (members s) (members r),
          total_same (λ i. under prices (Meet s r) next (members s + i)) (under prices r (next + 1 + nodes_in s)) (members r) (λ i lt. under_later prices s r next i),
        ),
      )

  all_parts : Parts T.teams 1
  all_parts = parts T.teams 1 0 (λ v lv. let e : 1 + v ≡ suc v = omega arith in ap (node_at T.teams) e ∙ same_node (node_below T.teams v).first (0 + (node_below T.teams v).first) (node_below T.teams v).teams (omega arith))

  pub split : 1 ≤ members T.teams → (map size_of (branches_of T) ≡ sizes_of T.teams) × (sight : Sight) × (allowed sight ≡ true) × HasSizes T.table sight (sizes_of T.teams) × (cost T ≡ joined_cost sight (branches_of T))
  split some =
      let h = all_parts in
      let g = h.2 in let y = h.3 in
      let size : members T.teams * prices 0 ≡ sum (map size_of (branches_of T)) * prices 0 = ap (λ (m : ℕ). m * prices 0) (sym (sizes_sum T.teams) ∙ sym (ap sum h.0)) in
      let steps = own_steps allowed T witnesses of_type uniform in (
        h.0,
        (uniform 0).0,
        (uniform 0).1,
        own_has allowed T witnesses of_type uniform 0 some,
        same_cost (cost T).steps (cost T).nodes (cost T).sum (prices 0 + greatest_steps (branches_of T)) (1 + all_nodes (branches_of T)) (sum (map size_of (branches_of T)) * prices 0 + all_steps (branches_of T))
            (omega (arith, greatest_same (steps_of T) (λ p. under prices T.teams 1 p + prices 0) (members T.teams) steps, greatest_plus (under prices T.teams 1) (prices 0) (members T.teams) some))
            (ap (λ (n : ℕ). 1 + n) h.1)
            (omega (arith, total_same (steps_of T) (λ p. under prices T.teams 1 p + prices 0) (members T.teams) steps, total_plus (under prices T.teams 1) (prices 0) (members T.teams))),
      )
