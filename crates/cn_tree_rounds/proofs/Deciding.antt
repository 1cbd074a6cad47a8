-- The decisions of all processes as a list, and consensus of them.
use Rattle.std.proofs.Common.{ℕ, ◌≡◌, ◌<◌, List, length, map, Option, Some, None, IsSome, refl, sym, ap, ◌∙◌, subst, arith}
use Rattle.std.proofs.lemmas.List.Elements.{All-contains, All-from_recursion}
use Rattle.std.proofs.lemmas.List.FromFn.{get_or-map-range_with_len, length-map-range_with_len}
use Rattle.std.proofs.lemmas.Option.{get_or_from_slice_get, slice_get-get_or}
use Rattle.cn_table.proofs.Lists.{get_low}
use Rattle.cn_agree.specs.Consensus.{Decides, IsSchedule}
use Rattle.cn_trees.specs.Consensus.{IsConsensus as AgreeAlong, decision, decision_of}
use Rattle.cn_trees.specs.Steps.{World, world_after}
use Rattle.cn_trees.specs.Tree.{processes_of}
use Rattle.cn_tree_plans.specs.Plan.{TreePlan, tree_of}
use Rattle.cn_tree_rounds.specs.Consensus.{IsConsensus}
use Rattle.cn_tree_rounds.specs.Schedules.{decisions_after, decisions_of, input_of}
use Rattle.cn_tree_rounds.specs.Worlds.{local_of, world_with}
use Rattle.cn_tree_rounds.specs.declared.local.Local.{Local as StoredLocal}
use Rattle.cn_tree_rounds.specs.declared.local.Local.TheVariants as local
use Rattle.cn_tree_rounds.specs.declared.local.Stage.TheVariants as stage
use Rattle.cn_tree_rounds.specs.declared.node.Node.{Node}
use Rattle.cn_tree_rounds.proofs.Lists.{map_by_index}

-- the decisions that are stored
pub decisions_are : (plan : TreePlan) (nodes : List Node) (locals : List StoredLocal) (n : ℕ) → length locals ≡ n
    → map (λ x. decision_of (local_of x)) locals ≡ decisions_of n (world_with plan nodes locals)
decisions_are plan nodes locals n many = map_by_index (λ x. decision_of (local_of x)) locals (local.Active 0 0 stage.Write) n many

-- what the list says of process p
decided_at : (n : ℕ) (w : World ℕ) (p x : ℕ) → Decides (decisions_of n w) p x → (p < n) × (decision w p ≡ Some x)
decided_at n w p x h =
    let lt : p < n = (let low = get_low (decisions_of n w) p (Some x) h in let many = length-map-range_with_len (decision w) 0 n in omega arith) in
    (lt, sym (get_or-map-range_with_len (decision w) 0 n p p None lt (omega arith)) ∙ get_or_from_slice_get (decisions_of n w) p (Some x) None h)

decides_at : (n : ℕ) (w : World ℕ) (p x : ℕ) → p < n → decision w p ≡ Some x → Decides (decisions_of n w) p x
decides_at n w p x lt e =
    let within : p < length (decisions_of n w) = (let many = length-map-range_with_len (decision w) 0 n in omega arith) in
    slice_get-get_or (decisions_of n w) p None within ∙ ap Some (get_or-map-range_with_len (decision w) 0 n p p None lt (omega arith) ∙ e)

some_value : (found : Option ℕ) → IsSome found → (x : ℕ) × (found ≡ Some x)
some_value None h = absurd cc
some_value (Some x) h = (x, refl)

pub consensus_of : (plan : TreePlan) (inputs schedule : List ℕ) → length inputs ≡ processes_of (tree_of plan) → IsSchedule (processes_of (tree_of plan)) schedule
    → AgreeAlong (tree_of plan) (processes_of (tree_of plan)) (input_of inputs) schedule → IsConsensus plan inputs schedule (decisions_after plan inputs schedule)
consensus_of plan inputs schedule many all h = record {
  entries = length-map-range_with_len (decision w) 0 n;
  agreement = λ p q x y dp dq. (let a = decided_at n w p x dp in let b = decided_at n w q y dq in h.agreement p q x y a.0 b.0 a.1 b.1);
  validity = λ p x d. (let a = decided_at n w p x d in
      let v = h.validity p x a.0 a.1 in
      let lt : v.0 < n = All-contains (λ q. q < n) schedule v.0 (All-from_recursion (λ q. q < n) schedule all) v.1 in
      (v.0, v.1, slice_get-get_or inputs v.0 0 (rw many lt) ∙ ap Some v.2));
  in_time = λ p lt. (
    (λ d. (h.in_time p lt).0 (let a = decided_at n w p d.0 d.1 in subst IsSome (sym a.1) refl)),
    (λ le. (let x = some_value (decision w p) ((h.in_time p lt).1 le) in (x.0, decides_at n w p x.0 lt x.1))),
  );
}
  where
    n : ℕ
    n = processes_of (tree_of plan)

    w : World ℕ
    w = world_after (tree_of plan) (input_of inputs) schedule
