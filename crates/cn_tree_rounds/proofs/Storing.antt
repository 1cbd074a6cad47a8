-- The world in memory stands for that of the model: at first, and after a step.
use Rattle.std.proofs.Common.{ℕ, ◌≡◌, ◌+◌, ◌<◌, List, [], ◌∷◌, ◌++◌, length, map, set, replicate, get_or, slice_index_or, Option, Some, None, refl, sym, ap, ◌∙◌, inl, inr, arith}
use Rattle.std.specs.List.{range_with_len}
use Rattle.std.proofs.lemmas.Bool.{cases_lt}
use Rattle.std.proofs.lemmas.List.{get_or_past}
use Rattle.std.proofs.lemmas.List.FromFn.{map-range_with_len_more}
use Rattle.std.proofs.Math.ListN as lists
use Rattle.cn_choice.specs.declared.limits.TheConstants.{MOST_PROCESSES}
use Rattle.cn_unread.specs.Functions.{put}
use Rattle.cn_meetings.specs.Meeting.{act}
use Rattle.cn_trees.specs.Steps.{Local, Stage, World, after_action, after_step, after_step_from, first_world, onward_if_found}
use Rattle.cn_trees.specs.Steps.Local.{Active}
use Rattle.cn_trees.specs.Steps.Stage.{Write, Apply, Look, Take}
use Rattle.cn_trees.specs.Tree.{Place, nodes_of, path_of, place_of}
use Rattle.cn_tree_plans.specs.Paths.{place_of as place_stored}
use Rattle.cn_tree_plans.specs.Plan.{NodeMeeting, TreePlan, meeting_in, no_meeting, tree_of}
use Rattle.cn_tree_rounds.specs.Schedules.{input_of}
use Rattle.cn_tree_rounds.specs.Turns.{IsTurn, local_after, local_at, node_after, node_at}
use Rattle.cn_tree_rounds.specs.Worlds.{fresh_node, local_in, local_of, node_in, register, stage_of, world_with}
use Rattle.cn_tree_rounds.specs.declared.local.Local.{Local as StoredLocal}
use Rattle.cn_tree_rounds.specs.declared.local.Local.TheVariants as local
use Rattle.cn_tree_rounds.specs.declared.local.Stage.TheVariants as stage
use Rattle.cn_tree_rounds.specs.declared.node.Node.{Node}
use Rattle.cn_tree_rounds.specs.declared.turn.Turn.{Turn}
use Rattle.cn_tree_rounds.proofs.Lists.{made_at, put_own, put_stored}

-- ---- before any step
abbrev pub first_node : TreePlan → ℕ → Node
first_node plan v = fresh_node (meeting_in plan.teams plan.meetings v).start

empty : (n team : ℕ) → get_or {A = Option ℕ} (replicate n None) team None ≡ None
empty n team = elim (cases_lt team n) [
  | inl lt ↦ lists.get_or-replicate n team None None lt
  | inr ge ↦ (let none : List (Option ℕ) = replicate n None in let many : length none ≡ n = lists.length-replicate n None in get_or_past none team None (omega arith))
]

abbrev first_local : ℕ → StoredLocal
first_local x = local.Active 0 x stage.Write

pub first_is : (plan : TreePlan) (nodes : List Node) (locals : List StoredLocal) (inputs : List ℕ) → nodes ≡ map (first_node plan) (range_with_len 0 (nodes_of (tree_of plan)))
    → locals ≡ map (λ x. local.Active 0 x stage.Write) inputs → world_with plan nodes locals ≡ first_world (tree_of plan) (input_of inputs)
first_is plan nodes locals inputs n l =
    let node : (v : ℕ) → node_in plan nodes v ≡ first_node plan v = λ v. ap (λ (xs : List Node). node_in plan xs v) n ∙ made_at (first_node plan) (nodes_of (tree_of plan)) v in
    let there : (p : ℕ) → local_in locals p ≡ Active 0 (get_or inputs p 0) Write =
    λ p. ap (λ (xs : List StoredLocal). local_in xs p) l ∙ ap local_of (lists.get_or-map first_local inputs p 0) in
    λ d. record {
      states = λ v. (node v d).state.0;
      registers = λ v team. (ap (λ (x : Node). register x team) (node v) ∙ empty MOST_PROCESSES team) d;
      locals = λ p. there p d;
    }

pub one_more_node : (plan : TreePlan) (k : ℕ) (done done' : List Node) (node : Node) (start : ℕ) (m : NodeMeeting) → done ≡ map (first_node plan) (range_with_len 0 k) → done' ≡ done ++ node ∷ []
    → node ≡ fresh_node start → start ≡ m.start → m ≡ slice_index_or plan.meetings k no_meeting → done' ≡ map (first_node plan) (range_with_len 0 (k + 1))
one_more_node plan k done done' node start m was more made starts read =
    let there : node ≡ first_node plan k = made ∙ ap fresh_node (starts ∙ ap (λ (x : NodeMeeting). x.start) read) in
    more ∙ ap (λ (xs : List Node). xs ++ node ∷ []) was ∙ ap (λ (x : Node). map (first_node plan) (range_with_len 0 k) ++ x ∷ []) there
    ∙ sym (map-range_with_len_more (first_node plan) 0 k k (omega arith))

-- ---- after a step
-- the world with another node and another process
abbrev changed : World ℕ → ℕ → ℕ → (ℕ → Option ℕ) → ℕ → Local ℕ → World ℕ
changed w v state registers p next = record {
  states = put w.states v state;
  registers = put w.registers v registers;
  locals = put w.locals p next;
}

write_is : (plan : TreePlan) (nodes : List Node) (locals : List StoredLocal) (v p : ℕ) (node : Node) (next : StoredLocal) → v < length nodes → p < length locals
    → world_with plan (set nodes v node) (set locals p next) ≡ changed (world_with plan nodes locals) v node.state.0 (register node) p (local_of next)
write_is plan nodes locals v p node next lv lp =
    let states = put_stored (λ (x : Node). x.state.0) nodes v node (first_node plan) lv in
    let registers = put_stored register nodes v node (first_node plan) lv in
    let there = put_stored local_of locals p next (λ _. local.Active 0 0 stage.Write) lp in
    λ d. record { states = λ u. states u d; registers = λ u. registers u d; locals = λ q. there q d }

-- each action of the model is such a change
action_is : (plan : TreePlan) (w : World ℕ) (p i x : ℕ) (s : Stage) (here : Place) (node : Node) → node.state.0 ≡ w.states here.node → register node ≡ w.registers here.node
    → (s ≡ Write → here.team < length node.registers)
    → changed w here.node (node_at (tree_of plan) p here x s node).state.0 (register (node_at (tree_of plan) p here x s node)) p (local_at (tree_of plan) p i here x s node)
    ≡ after_action (tree_of plan) p w i x s here
action_is plan w p i x Write here node state registers inside =
    let same = put_own w.states here.node node.state.0 state in
    let written : register (record node { registers = set node.registers here.team (Some x) }) ≡ put (register node) here.team (Some x) =
    λ d team. put_stored (λ (y : Option ℕ). y) node.registers here.team (Some x) (λ _. None) (inside refl) team d in
    let there : put (register node) here.team (Some x) ≡ put (w.registers here.node) here.team (Some x) = ap (λ (f : ℕ → Option ℕ). put f here.team (Some x)) registers in
    let all = written ∙ there in
    λ d. record { states = λ u. same u d; registers = put w.registers here.node (all d); locals = put w.locals p (Active i x Apply) }
action_is plan w p i x Apply here node state registers inside =
    let same = put_own w.registers here.node (register node) registers in
    let next : (q : ℕ) → Local ℕ = λ q. local_at (tree_of plan) p i here x Apply (record node { state = record { 0 = q } }) in
    λ d. record {
      states = put w.states here.node (act plan.table ((tree_of plan).meeting here.node) p (state d)).1;
      registers = λ u. same u d;
      locals = put w.locals p (next (state d));
    }
action_is plan w p i x (Look response) here node state registers inside =
    let states = put_own w.states here.node node.state.0 state in
    let same = put_own w.registers here.node (register node) registers in
    let next : (q : ℕ) → Local ℕ = λ q. local_at (tree_of plan) p i here x (Look response) (record node { state = record { 0 = q } }) in
    λ d. record { states = λ u. states u d; registers = λ u. same u d; locals = put w.locals p (next (state d)) }
action_is plan w p i x (Take response saw) here node state registers inside =
    let states = put_own w.states here.node node.state.0 state in
    let same = put_own w.registers here.node (register node) registers in
    let next = ap (λ (f : ℕ → Option ℕ). onward_if_found (length (path_of (tree_of plan) p)) i (Active i x (Take response saw)) (f ((tree_of plan).judge here.node p response saw))) registers in
    λ d. record { states = λ u. states u d; registers = λ u. same u d; locals = put w.locals p (next d) }

pub step_is : (plan : TreePlan) (nodes : List Node) (locals : List StoredLocal) (p : ℕ) (turn : Turn) (node node' : Node) (next : StoredLocal) → IsTurn plan turn → turn.process ≡ p
    → local_in locals p ≡ Active turn.place turn.value (stage_of turn.stage) → turn.here.node < length nodes → p < length locals → node ≡ node_in plan nodes turn.here.node
    → turn.here.team < length node.registers → node' ≡ node_after plan turn node → local_of next ≡ local_after plan turn node
    → world_with plan (set nodes turn.here.node node') (set locals p next) ≡ after_step (tree_of plan) p (world_with plan nodes locals)
step_is plan nodes locals p turn node node' next is mine here lv lp read inside n l =
    let w : World ℕ = world_with plan nodes locals in
    let at : Place = place_stored turn.here in
    let own : local_of next ≡ local_at (tree_of plan) p turn.place at turn.value (stage_of turn.stage) node =
    l ∙ ap (λ q. local_at (tree_of plan) q turn.place at turn.value (stage_of turn.stage) node) mine in
    let its : node' ≡ node_at (tree_of plan) p at turn.value (stage_of turn.stage) node = n ∙ ap (λ q. node_at (tree_of plan) q at turn.value (stage_of turn.stage) node) mine in
    let place : at ≡ place_of (tree_of plan) p turn.place = is.here ∙ ap (λ q. place_of (tree_of plan) q turn.place) mine in
    let both : changed w turn.here.node node'.state.0 (register node') p (local_of next)
    ≡ changed w turn.here.node (node_at (tree_of plan) p at turn.value (stage_of turn.stage) node).state.0 (register (node_at (tree_of plan) p at turn.value (stage_of turn.stage) node)) p
    (local_at (tree_of plan) p turn.place at turn.value (stage_of turn.stage) node) = λ d. changed w turn.here.node (its d).state.0 (register (its d)) p (own d) in
    write_is plan nodes locals turn.here.node p node' next lv lp ∙ both
    ∙ action_is plan w p turn.place turn.value (stage_of turn.stage) at node (ap (λ (x : Node). x.state.0) read) (ap register read) (λ _. inside)
    ∙ ap (after_action (tree_of plan) p w turn.place turn.value (stage_of turn.stage)) place
    ∙ sym (ap (after_step_from (tree_of plan) p w) here)
