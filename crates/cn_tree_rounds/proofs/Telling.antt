-- A process has no next action exactly if it has decided.
use Rattle.std.proofs.Common.{ℕ, ◌≡◌, ◌<◌, ◌↔◌, List, [], length, IsNone, IsSome, Option, None, option_map, refl, sym, subst}
use Rattle.cn_agree.specs.Consensus.{IsSchedule}
use Rattle.cn_trees.specs.Consensus.{decision, decision_of}
use Rattle.cn_trees.specs.Steps.{Local, Stage, World, first_world, world_after}
use Rattle.cn_trees.specs.Steps.Local.{Active, Decided}
use Rattle.cn_trees.specs.Steps.Stage.{Write, Apply, Look, Take}
use Rattle.cn_trees.specs.Tree.{IsPlanTree, Place, PlanTree, path_of, place_of, processes_of}
use Rattle.cn_trees.proofs.Stepping.{Kept, first_holds, found_is, keeps_schedule}
use Rattle.cn_tree_rounds.specs.Actions.{action_from, action_of, taking}

module _ (T : PlanTree) (plan : IsPlanTree T) (inputs : ℕ → ℕ) (w : World ℕ) (kept : Kept T inputs w) (p : ℕ) (lt : p < processes_of T) where
  staged : (i x : ℕ) (stage : Stage) → w.locals p ≡ Active i x stage → IsNone (action_from T p w (Active i x stage)) ↔ IsSome (decision_of (Active i x stage))
  staged i x Write e = (λ h. sym h, λ h. sym h)
  staged i x Apply e = (λ h. sym h, λ h. sym h)
  staged i x (Look response) e = (λ h. sym h, λ h. sym h)
  staged i x (Take response saw) e =
      let mine = rw e at (kept.1.local_holds p lt) in
      let here : Place = place_of T p i in
      let team : ℕ = T.judge here.node p response saw in
      let found = found_is T plan inputs w kept.0 kept.1 p i lt x here.node response saw (kept.0 here.node) refl mine.2 in
      let Q : Option ℕ → Type 0 = λ o. IsNone (option_map (taking (length (path_of T p)) i here.node team) o) ↔ IsSome {T = ℕ} None in
      subst Q (sym found.1) (λ h. sym h, λ h. sym h)

  pub none_if_decided : IsNone (action_of T p w) ↔ IsSome (decision w p)
  none_if_decided = go (w.locals p) refl
    where
      go : (here : Local ℕ) → w.locals p ≡ here → IsNone (action_from T p w here) ↔ IsSome (decision_of here)
      go (Active i x stage) e = staged i x stage e
      go (Decided y) e = (λ h. refl, λ h. refl)

pub told : (T : PlanTree) → IsPlanTree T → (inputs : ℕ → ℕ) (schedule : List ℕ) (p : ℕ) → IsSchedule (processes_of T) schedule → p < processes_of T
    → IsNone (action_of T p (world_after T inputs schedule)) ↔ IsSome (decision (world_after T inputs schedule) p)
told T plan inputs schedule p all lt =
    none_if_decided T plan inputs (world_after T inputs schedule)
    (keeps_schedule T plan inputs schedule (first_world T inputs) all (λ v. [], first_holds T plan inputs)) p lt
