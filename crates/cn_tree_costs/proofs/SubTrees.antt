-- The tree at a node of a tree.
use Rattle.std.proofs.Common.{ℕ, zero, suc, ◌≡◌, Bool, true, false, ◌+◌, ◌-◌, ◌<◌, ◌≤◌, refl, sym, ap, ◌∙◌, subst, arith, nat_lt, inl, inr}
use Rattle.std.proofs.lemmas.Bool.{cases_lt}
use Rattle.std.proofs.lemmas.Bool.Decides.{nat_tests}
use Rattle.cn_table.specs.TypeTable.{TypeTable}
use Rattle.cn_meetings.specs.Choices.{renamed}
use Rattle.cn_meetings.specs.Meeting.{Sight}
use Rattle.cn_meetings.specs.Witness.{Has}
use Rattle.cn_meetings.proofs.Renaming.{renaming}
use Rattle.cn_trees.specs.Tree.{PlanTree, Teams, comes_to, members, nodes_in, team_in}
use Rattle.cn_trees.specs.Tree.Teams.{Alone, Last, Meet}
use Rattle.cn_tree_costs.specs.Cost.{IsTreeFor}
use Rattle.cn_tree_costs.specs.Nodes.{IsAmong, Node, behind, node_at, node_below, tree_at}
use Rattle.cn_tree_costs.specs.Sizes.{block, sizes_of}
use Rattle.cn_tree_costs.proofs.NodesOf.{among_comes, among_whole, comes_among, meet_nodes, team_of_node}
use Rattle.cn_tree_costs.proofs.Witnesses.{same_teams}

pub same_node : (f g : ℕ) (s : Teams) → f ≡ g → ◌≡◌ {A = Node} (record { first = f; teams = s }) (record { first = g; teams = s })
same_node f g s e = rw e refl

-- where the tree of a node ends
nodes_inside : (u : Teams) (v : ℕ) → v < nodes_in u → v + nodes_in (node_below u v).teams < nodes_in u
nodes_inside Last v lv = absurd (omega arith)
nodes_inside (Alone r) v lv = nodes_inside r v lv
nodes_inside (Meet s r) v lv =
    meet_nodes (λ w x. w < 1 + nodes_in s + nodes_in r → w + nodes_in x.teams < 1 + nodes_in s + nodes_in r) s r
    (λ l. omega arith)
    (λ w lw l. let h = nodes_inside s w lw in omega arith)
    (λ w le l. let h = nodes_inside r (w - nodes_in s) (omega arith) in omega arith) v lv

composed : (u : Teams) (v w : ℕ) → v < nodes_in u → w ≤ nodes_in (node_below u v).teams → node_below u (v + w) ≡ behind (node_below u v).first (node_at (node_below u v).teams w)
composed Last v w lv lw = absurd (omega arith)
composed (Alone r) v w lv lw =
    ap (behind 1) (composed r v w lv lw)
    ∙ same_node (1 + ((node_below r v).first + (node_at (node_below r v).teams w).first)) (1 + (node_below r v).first + (node_at (node_below r v).teams w).first) (node_at (node_below r v).teams w).teams (omega arith)
composed (Meet s r) zero zero lv lw = same_node 0 (0 + 0) s refl
composed (Meet s r) zero (suc w) lv lw =
    let e : zero + suc w ≡ suc w = omega arith in
    let l : nat_lt w (nodes_in s) ≡ true = grind (arith, nat_tests) in
    rw (e, l) (same_node (node_below s w).first (0 + (node_below s w).first) (node_below s w).teams (omega arith))
composed (Meet s r) (suc v) w lv lw = elim (cases_lt v (nodes_in s)) [
  | inl lt ↦ (let l : nat_lt v (nodes_in s) ≡ true = grind (arith, nat_tests) in
      let lw' : w ≤ nodes_in (node_below s v).teams = rw l at lw in
      let inside = nodes_inside s v lt in
      let e : suc v + w ≡ suc (v + w) = omega arith in
      let l' : nat_lt (v + w) (nodes_in s) ≡ true = grind (arith, nat_tests) in
      rw (e, l, l') (composed s v w lt lw'))
  | inr ge ↦ (let l : nat_lt v (nodes_in s) ≡ false = grind (arith, nat_tests) in
      let lw' : w ≤ nodes_in (node_below r (v - nodes_in s)).teams = rw l at lw in
      let e : suc v + w ≡ suc (v + w) = omega arith in
      let l' : nat_lt (v + w) (nodes_in s) ≡ false = grind (arith, nat_tests) in
      let d : v + w - nodes_in s ≡ (v - nodes_in s) + w = omega arith in
      rw (e, l, l', d) (ap (behind (members s)) (composed r (v - nodes_in s) w (omega arith) lw')
      ∙ same_node (members s + ((node_below r (v - nodes_in s)).first + (node_at (node_below r (v - nodes_in s)).teams w).first))
      (members s + (node_below r (v - nodes_in s)).first + (node_at (node_below r (v - nodes_in s)).teams w).first) (node_at (node_below r (v - nodes_in s)).teams w).teams (omega arith)))
]

-- a node with a process is one of the tree
known_below : (u : Teams) (v p : ℕ) → IsAmong (node_below u v) p → v < nodes_in u
known_below Last v p h = let l = h.1 in absurd (omega arith)
known_below (Alone r) v p h = let a = h.0 in let b = h.1 in known_below r v (p - 1) (omega arith, omega arith)
known_below (Meet s r) v p h =
    meet_nodes (λ w x. IsAmong x p → w < 1 + nodes_in s + nodes_in r) s r
    (λ h. omega arith)
    (λ w lw h. omega arith)
    (λ w le h. let a = h.0 in let b = h.1 in let k = known_below r (w - nodes_in s) (p - members s) (omega arith, omega arith) in omega arith) v h

known_at : (s : Teams) (v p : ℕ) → IsAmong (node_at s v) p → v ≤ nodes_in s
known_at s zero p h = omega arith
known_at s (suc v) p h = known_below s v p h

composed_at : (s : Teams) (v w : ℕ) → v ≤ nodes_in s → w ≤ nodes_in (node_at s v).teams → node_at s (v + w) ≡ behind (node_at s v).first (node_at (node_at s v).teams w)
composed_at s zero w lv lw = let e : zero + w ≡ w = omega arith in rw e (same_node (node_at s w).first (0 + (node_at s w).first) (node_at s w).teams (omega arith))
composed_at s (suc v) w lv lw = let e : suc v + w ≡ suc (v + w) = omega arith in rw e (composed s v w lv lw)

-- ---- the processes of the tree at a node
module _ (s : Teams) (v w p : ℕ) (came : Has (comes_to (node_at s v).teams w) p) where
  abbrev x : Node
  x = node_at s v

  lower : IsAmong (node_at x.teams w) p
  lower = comes_among x.teams w p came

  upper : IsAmong x (x.first + p)
  upper = let l = among_whole x.teams w p lower in (omega arith, omega arith)

  same : node_at s (v + w) ≡ behind x.first (node_at x.teams w)
  same = composed_at s v w (known_at s v (x.first + p) upper) (known_at x.teams w p lower)

  pub comes_above : Has (comes_to s (v + w)) (x.first + p)
  comes_above = among_comes s (v + w) (x.first + p) (subst (λ y. IsAmong y (x.first + p)) (sym same) (let a = lower.0 in let b = lower.1 in (omega arith, omega arith)))

  pub team_above : team_in s (v + w) (x.first + p) ≡ team_in x.teams w p
  team_above =
      team_of_node s (v + w) (x.first + p) comes_above
      ∙ (ap (λ (y : Node). block (sizes_of y.teams) (x.first + p - y.first)) same
      ∙ (ap (block (sizes_of (node_at x.teams w).teams)) (omega arith) ∙ sym (team_of_node x.teams w p came)))

pub sub_tree : (t : TypeTable) (allowed : Sight → Bool) (n : ℕ) (T : PlanTree) (v : ℕ) → IsTreeFor t allowed n T → IsTreeFor t allowed (members (node_at T.teams v).teams) (tree_at T v)
sub_tree t allowed n T v tree = record {
  table = tree.table;
  processes = refl;
  witnesses = λ w. same_teams T.table (renamed (λ p. (node_at T.teams v).first + p) (T.meeting (v + w))) (comes_to (node_at T.teams v).teams w) (λ p. team_in T.teams (v + w) ((node_at T.teams v).first + p)) (team_in (node_at T.teams v).teams w)
      (λ p h. team_above T.teams v w p h)
      (renaming T.table (T.meeting (v + w)) (comes_to T.teams (v + w)) (comes_to (node_at T.teams v).teams w) (λ p. (node_at T.teams v).first + p) (λ p h. comes_above T.teams v w p h) (λ p q hp hq e. omega arith)
      (team_in T.teams (v + w)) (tree.witnesses (v + w)));
  of_type = record {
    starts = λ w. tree.of_type.starts (v + w);
    operations = λ w p h. tree.of_type.operations (v + w) ((node_at T.teams v).first + p) (comes_above T.teams v w p h);
    sights = λ w p h. tree.of_type.sights (v + w) ((node_at T.teams v).first + p) (comes_above T.teams v w p h);
  };
  uniform = λ w. ((tree.uniform (v + w)).0, (tree.uniform (v + w)).1, λ p h. (tree.uniform (v + w)).2 ((node_at T.teams v).first + p) (comes_above T.teams v w p h));
}
