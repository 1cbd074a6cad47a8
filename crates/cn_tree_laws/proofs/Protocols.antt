-- The protocols of plan trees solve consensus.
use Rattle.std.proofs.Common.{◌≡◌, ℕ, ◌*◌, ◌<◌, ◌≤◌, Bool, List, [], ◌∷◌, length, Option, Some, None, IsSome, refl, sym, ◌∙◌, arith, true≢false}
use Rattle.std.proofs.lemmas.List.Elements.{All-contains, All-from_recursion}
use Rattle.cn_table.specs.TypeTable.{IsClosed}
use Rattle.cn_agree.specs.declared.local.Local.{Local as LocalOf}
use Rattle.cn_agree.specs.declared.local.Local.TheVariants.{NotBegun, Active as At, Decided as Done}
use Rattle.cn_agree.specs.declared.local.Stage.TheVariants.{Write as ToWrite, Apply as ToApply, Read as ToRead, Take as ToTake}
use Rattle.cn_consensus.specs.Configuration.{after, decision, initial}
use Rattle.cn_consensus.specs.Consensus.{IsConsensusProtocol, IsSchedule}
use Rattle.cn_consensus.specs.Protocol.{IsActionOf, IsProtocolOf}
use Rattle.cn_consensus.specs.Types.{all_of}
use Rattle.cn_unread_laws.specs.Reads.{IsWithoutReads, ReadsNoObject}
use Rattle.cn_meetings.specs.Meeting.{IsSightOf, Sight}
use Rattle.cn_meetings.specs.Meeting.Sight.{Nothing, Response, State}
use Rattle.cn_trees.specs.Consensus as tree
use Rattle.cn_trees.specs.Steps.{world_after}
use Rattle.cn_trees.specs.Tree.{IsOfType, PlanTree, levels, path_of, place_of, processes_of}
use Rattle.cn_trees.proofs.Places.{come_any}
use Rattle.cn_tree_laws.specs.TreeProtocol.{ReadsNoState, local_action, look_action, tree_protocol}
use Rattle.cn_tree_laws.proofs.Mirroring.{decision_is}

wider : (n m : ℕ) (schedule : List ℕ) → n ≤ m → IsSchedule n schedule → IsSchedule m schedule
wider n m [] le all = tt
wider n m (p ∷ schedule) le all = (let l = all.0 in omega arith, wider n m schedule le all.1)

pub consensus : (T : PlanTree) (n : ℕ) → IsClosed T.table → IsOfType T → n ≤ processes_of T
    → ((inputs : ℕ → Bool) (schedule : List ℕ) → IsSchedule n schedule → tree.IsConsensus T n inputs schedule)
    → ((p : ℕ) → tree.steps_of T p ≤ 4 * length (path_of T p)) → ((p : ℕ) → length (path_of T p) ≤ levels T.teams)
    → IsConsensusProtocol (all_of T.table) n (tree_protocol T)
consensus T n closed of few agrees most short = record {
  agreement = λ inputs schedule all p q x y lp lq dp dq.
      (agrees inputs schedule all).agreement p q x y lp lq (sym (same inputs schedule all p) ∙ dp) (sym (same inputs schedule all q) ∙ dq);
  validity = λ inputs schedule all p x lp d.
      (let v = (agrees inputs schedule all).validity p x lp (sym (same inputs schedule all p) ∙ d) in
      (v.0, All-contains (λ (r : ℕ). r < n) schedule v.0 (All-from_recursion (λ (r : ℕ). r < n) schedule all) v.1, v.2));
  wait_freedom = λ inputs. (
    4 * levels T.teams,
    λ schedule all p lp often.
        (let m = most p in let s = short p in let some = ((agrees inputs schedule all).in_time p lp).1 (omega arith) in
        value (tree.decision (world_after T inputs schedule) p) some (decision (tree_protocol T) (after (all_of T.table) (tree_protocol T) (initial (tree_protocol T) inputs) schedule) p) (same inputs schedule all p)),
  );
}
  where
    same : (inputs : ℕ → Bool) (schedule : List ℕ) → IsSchedule n schedule → (p : ℕ)
        → decision (tree_protocol T) (after (all_of T.table) (tree_protocol T) (initial (tree_protocol T) inputs) schedule) p ≡ tree.decision (world_after T inputs schedule) p
    same inputs schedule all p = decision_is T closed of inputs schedule (wider n (processes_of T) schedule few all) p

    value : (found : Option Bool) → IsSome found → (told : Option Bool) → told ≡ found → (x : Bool) × (told ≡ Some x)
    value None s told e = absurd (true≢false (sym s))
    value (Some x) s told e = (x, e)

pub of_type : (T : PlanTree) (n : ℕ) → IsOfType T → n ≤ processes_of T → IsProtocolOf (all_of T.table) n (tree_protocol T)
of_type T n of few = record { states_known = of.starts; operations_known = λ p l lt. each p l (omega arith) }
  where
    look : (s : Sight) (node : ℕ) (k : ℕ → LocalOf Bool) → IsSightOf T.table s → IsActionOf (all_of T.table) (look_action s node k)
    look State node k is = tt
    look Nothing node k is = tt
    look (Response o) node k is = is.known

    each : (p : ℕ) (l : LocalOf Bool) → p < processes_of T → IsActionOf (all_of T.table) (local_action T p l)
    each p NotBegun lp = tt
    each p (Done y) lp = tt
    each p (At i x ToWrite) lp = tt
    each p (At i x ToApply) lp = of.operations (place_of T p i).node p (come_any T p i lp)
    each p (At i x (ToRead response)) lp = look ((T.meeting (place_of T p i).node).sight p) (place_of T p i).node _ (of.sights (place_of T p i).node p (come_any T p i lp))
    each p (At i x (ToTake response saw)) lp = tt

pub unread : (T : PlanTree) (n : ℕ) → ReadsNoState T → n ≤ processes_of T → IsWithoutReads n (tree_protocol T)
unread T n none few p l lt = each l
  where
    look : (s : Sight) (node : ℕ) (k : ℕ → LocalOf Bool) → ¬ (s ≡ State) → ReadsNoObject (look_action s node k)
    look State node k not = absurd (not refl)
    look Nothing node k not = tt
    look (Response o) node k not = tt

    each : (l : LocalOf Bool) → ReadsNoObject (local_action T p l)
    each NotBegun = tt
    each (Done y) = tt
    each (At i x ToWrite) = tt
    each (At i x ToApply) = tt
    each (At i x (ToRead response)) = look ((T.meeting (place_of T p i).node).sight p) (place_of T p i).node _ (none (place_of T p i).node p (come_any T p i (omega arith)))
    each (At i x (ToTake response saw)) = tt
