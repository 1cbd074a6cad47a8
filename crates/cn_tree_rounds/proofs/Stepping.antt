-- The step of a process whose turn and whose node were read.
use Rattle.std.proofs.Common.{ℕ, ◌≡◌, ◌<◌, List, length, set, get_or, sym, ◌∙◌, subst}
use Rattle.std.proofs.lemmas.List.{get_or_default}
use Rattle.std.proofs.lemmas.List.Elements.{All-get_or}
use Rattle.cn_trees.specs.Steps.{after_step}
use Rattle.cn_trees.specs.Steps.Local.{Active}
use Rattle.cn_trees.specs.Tree.{processes_of}
use Rattle.cn_tree_plans.specs.Plan.{IsTreePlan, TreePlan, tree_of}
use Rattle.cn_tree_rounds.specs.Turns.{IsTurn, local_after, node_after}
use Rattle.cn_tree_rounds.specs.Worlds.{AreOfPlan, FitsType, local_in, local_of, node_in, stage_of, world_with}
use Rattle.cn_tree_rounds.specs.declared.local.Local.{Local as StoredLocal}
use Rattle.cn_tree_rounds.specs.declared.node.Node.{Node}
use Rattle.cn_tree_rounds.specs.declared.turn.Turn.{Turn}
use Rattle.cn_tree_rounds.proofs.Keeping.{step_of_plan}
use Rattle.cn_tree_rounds.proofs.Storing.{first_node, step_is}
use Rattle.cn_tree_rounds.proofs.TeamCounts.{few_teams}

module _ (plan : TreePlan) (is : IsTreePlan plan) (nodes : List Node) (locals : List StoredLocal) (of : AreOfPlan plan nodes locals) (p : ℕ) (lt : p < processes_of (tree_of plan)) (turn : Turn)
    (t : IsTurn plan turn × (turn.process ≡ p) × (local_in locals p ≡ Active turn.place turn.value (stage_of turn.stage))) (node : Node) where
  there : turn.here.node < length nodes
  there = rw of.node_count t.0.known.node

  fits : node ≡ get_or nodes turn.here.node node → FitsType plan node
  fits read = subst (FitsType plan) (sym read) (All-get_or (FitsType plan) nodes turn.here.node node there of.each_node)

  read_is : node ≡ get_or nodes turn.here.node node → node ≡ node_in plan nodes turn.here.node
  read_is read = read ∙ sym (get_or_default nodes turn.here.node (first_node plan turn.here.node) node there)

  inside : node ≡ get_or nodes turn.here.node node → turn.here.team < length node.registers
  inside read = rw (fits read).registers (few_teams plan is turn.here.node turn.here.team t.0.known.inside)

  pub stepped : (node' : Node) (next : StoredLocal) (v q : ℕ) → v ≡ turn.here.node → q ≡ p → node ≡ get_or nodes v node → node' ≡ node_after plan turn node → local_of next ≡ local_after plan turn node
      → world_with plan (set nodes v node') (set locals q next) ≡ after_step (tree_of plan) p (world_with plan nodes locals)
  stepped node' next v q e f read n l =
      let here : node ≡ get_or nodes turn.here.node node = rw e at read in
      rw (e, f) (step_is plan nodes locals p turn node node' next t.0 t.1 t.2 there (rw of.process_count lt) (read_is here) (inside here) n l)

  pub kept : (node' : Node) (next : StoredLocal) (v q : ℕ) → v ≡ turn.here.node → q ≡ p → node ≡ get_or nodes v node → node' ≡ node_after plan turn node → node'.state.0 < length plan.table.states
      → local_of next ≡ local_after plan turn node → AreOfPlan plan (set nodes v node') (set locals q next)
  kept node' next v q e f read n state l =
      let here : node ≡ get_or nodes turn.here.node node = rw e at read in
      rw (e, f) (step_of_plan plan nodes locals p turn node node' next of t.0 t.1 (fits here) n state l)
