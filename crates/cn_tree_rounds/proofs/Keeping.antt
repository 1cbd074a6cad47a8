-- Nodes and processes of a plan, at first and after a step.
use Rattle.std.proofs.Common.{ℕ, ◌≡◌, ◌+◌, ◌<◌, List, length, map, set, get_or, Option, Some, None, Bool, true, false, nat_lt, refl, sym, ap, ◌∙◌, subst, inl, inr, arith, get_or-set_same, get_or-set_other, length-set}
use Rattle.std.proofs.lemmas.List.{length-map}
use Rattle.std.specs.List.{range_with_len}
use Rattle.std.proofs.lemmas.Bool.{cases_eq}
use Rattle.std.proofs.lemmas.Bool.Decides.{nat_tests}
use Rattle.std.proofs.lemmas.List.Elements.{All-from_get_or, All-set}
use Rattle.std.proofs.lemmas.List.FromFn.{get_or-map-range_with_len, length-map-range_with_len}
use Rattle.std.proofs.Math.ListN as lists
use Rattle.cn_choice.specs.declared.limits.TheConstants.{MOST_PROCESSES}
use Rattle.cn_meetings.specs.Meeting.{act}
use Rattle.cn_trees.specs.Steps.{Stage, behind, looks_at, onward, onward_if_found}
use Rattle.cn_trees.specs.Steps.Local.{Active}
use Rattle.cn_trees.specs.Steps.Stage.{Write, Apply, Look, Take}
use Rattle.cn_trees.specs.Tree.{Place, PlanTree, nodes_of, path_of, place_of, processes_of}
use Rattle.cn_trees.proofs.Places.{starts}
use Rattle.cn_tree_plans.specs.Paths.{place_of as place_stored}
use Rattle.cn_tree_plans.specs.Plan.{IsTreePlan, TreePlan, tree_of}
use Rattle.cn_tree_rounds.specs.Turns.{IsTurn, local_after, local_at, node_after, node_at}
use Rattle.cn_tree_rounds.specs.Worlds.{AreOfPlan, FitsType, IsUnderWay, LooksWell, local_in, local_of, register, stage_of}
use Rattle.cn_tree_rounds.specs.declared.local.Local.{Local as StoredLocal}
use Rattle.cn_tree_rounds.specs.declared.local.Local.TheVariants as local
use Rattle.cn_tree_rounds.specs.declared.local.Stage.TheVariants as stage
use Rattle.cn_tree_rounds.specs.declared.node.Node.{Node}
use Rattle.cn_tree_rounds.specs.declared.turn.Turn.{Turn}
use Rattle.cn_tree_rounds.proofs.Storing.{first_node}

-- ---- before any step
pub first_of_plan : (plan : TreePlan) → IsTreePlan plan → (nodes : List Node) (locals : List StoredLocal) (inputs : List ℕ) → length inputs ≡ processes_of (tree_of plan)
    → nodes ≡ map (first_node plan) (range_with_len 0 (nodes_of (tree_of plan))) → locals ≡ map (λ x. local.Active 0 x stage.Write) inputs → AreOfPlan plan nodes locals
first_of_plan plan is nodes locals inputs many n l =
    let count : length nodes ≡ nodes_of (tree_of plan) = ap length n ∙ length-map-range_with_len (first_node plan) 0 (nodes_of (tree_of plan)) in
    record {
      node_count = count;
      process_count = ap length l ∙ length-map inputs (λ x. local.Active 0 x stage.Write) ∙ many;
      each_node = All-from_get_or (FitsType plan) nodes (first_node plan 0) (λ v lt. fits v lt count);
      each_process = λ p lt. (let e : local_in locals p ≡ Active 0 (get_or inputs p 0) Write =
          ap (λ (xs : List StoredLocal). local_in xs p) l ∙ ap local_of (lists.get_or-map (λ x. local.Active 0 x stage.Write) inputs p 0) in
          rw e (starts (tree_of plan) p lt, tt));
    }
  where
    fits : (v : ℕ) → v < length nodes → length nodes ≡ nodes_of (tree_of plan) → FitsType plan (get_or nodes v (first_node plan 0))
    fits v lt count =
        let within : v < nodes_of (tree_of plan) = omega arith in
        let e : get_or nodes v (first_node plan 0) ≡ first_node plan v =
        ap (λ (xs : List Node). get_or xs v (first_node plan 0)) n ∙ get_or-map-range_with_len (first_node plan) 0 (nodes_of (tree_of plan)) v v (first_node plan 0) within (omega arith) in
        subst (FitsType plan) (sym e) (record { state = is.fits.starts v within; registers = (let none : Option ℕ = None in lists.length-replicate MOST_PROCESSES none) })

-- ---- after a step
node_fits : (plan : TreePlan) (p x : ℕ) (here : Place) (s : Stage) (node : Node) → length node.registers ≡ MOST_PROCESSES → length (node_at (tree_of plan) p here x s node).registers ≡ MOST_PROCESSES
node_fits plan p x here Write node h = length-set node.registers here.team (Some x) ∙ h
node_fits plan p x here Apply node h = h
node_fits plan p x here (Look response) node h = h
node_fits plan p x here (Take response saw) node h = h

behind_looks : (T : PlanTree) (p : ℕ) (here : Place) (response : ℕ) (looks : Bool) → looks_at T here.node p ≡ looks → LooksWell T here.node p (behind T p here response)
behind_looks T p here response true e = rw e e
behind_looks T p here response false e = rw e tt

onward_well : (T : PlanTree) (p i y : ℕ) (more : Bool) → nat_lt (i + 1) (length (path_of T p)) ≡ more → IsUnderWay T p (onward (length (path_of T p)) i y)
onward_well T p i y true e = rw e (grind (arith, nat_tests), tt)
onward_well T p i y false e = rw e tt

found_well : (T : PlanTree) (p i x response saw : ℕ) (found : Option ℕ) → i < length (path_of T p) → IsUnderWay T p (onward_if_found (length (path_of T p)) i (Active i x (Take response saw)) found)
found_well T p i x response saw None lt = (lt, tt)
found_well T p i x response saw (Some y) lt = onward_well T p i y (nat_lt (i + 1) (length (path_of T p))) refl

local_well : (T : PlanTree) (p i x : ℕ) (here : Place) (s : Stage) (node : Node) → i < length (path_of T p) → here ≡ place_of T p i → IsUnderWay T p (local_at T p i here x s node)
local_well T p i x here Write node lt e = (lt, tt)
local_well T p i x here Apply node lt e = (lt, rw (← e) (behind_looks T p here (act T.table (T.meeting here.node) p node.state.0).0 (looks_at T here.node p) refl))
local_well T p i x here (Look response) node lt e = (lt, tt)
local_well T p i x here (Take response saw) node lt e = found_well T p i x response saw (register node (T.judge here.node p response saw)) lt

pub step_of_plan : (plan : TreePlan) (nodes : List Node) (locals : List StoredLocal) (p : ℕ) (turn : Turn) (node node' : Node) (next : StoredLocal) → AreOfPlan plan nodes locals → IsTurn plan turn
    → turn.process ≡ p → FitsType plan node → node' ≡ node_after plan turn node → node'.state.0 < length plan.table.states → local_of next ≡ local_after plan turn node
    → AreOfPlan plan (set nodes turn.here.node node') (set locals p next)
step_of_plan plan nodes locals p turn node node' next of is mine fits n state l = record {
  node_count = length-set nodes turn.here.node node' ∙ of.node_count;
  process_count = length-set locals p next ∙ of.process_count;
  each_node = All-set (FitsType plan) nodes turn.here.node node' (record {
    state = state;
    registers = ap (λ (x : Node). length x.registers) n ∙ node_fits plan turn.process turn.value (place_stored turn.here) (stage_of turn.stage) node fits.registers;
  }) of.each_node;
  each_process = λ q lt. elim (cases_eq q p) [
    | inl e ↦ (let within : p < length locals = (let m = of.process_count in omega arith) in
        let there : local_in (set locals p next) q ≡ local_after plan turn node = ap (local_in (set locals p next)) e ∙ ap local_of (get_or-set_same locals p next (local.Active 0 0 stage.Write) within) ∙ l in
        let T = tree_of plan in
        let self : q ≡ turn.process = e ∙ sym mine in
        rw (there, self) (local_well T turn.process turn.place turn.value (place_stored turn.here) (stage_of turn.stage) node (rw (← is.places) is.place) is.here))
    | inr ne ↦ subst (IsUnderWay (tree_of plan) q) (sym (ap local_of (get_or-set_other locals p q next (local.Active 0 0 stage.Write) ne))) (of.each_process q lt)
  ];
}
