-- Whole schedules end in consensus.
use Rattle.std.proofs.Common.{ℕ, zero, suc, ◌≡◌, ◌+◌, ◌*◌, ◌<◌, ◌≤◌, ◌↔◌, min, Bool, true, false, List, [], ◌∷◌, Some, IsSome, refl, sym, ◌∙◌, arith, true≢false}
use Rattle.cn_agree.specs.Consensus.{IsSchedule, occurrences}
use Rattle.cn_trees.specs.Consensus.{IsConsensus, decision_of, steps_at, steps_before, steps_of}
use Rattle.cn_trees.specs.Steps.{Local, World, first_world, looks_at, world_after}
use Rattle.cn_trees.specs.Steps.Local.{Active, Decided}
use Rattle.cn_trees.specs.Tree.{IsPlanTree, PlanTree, place_of, processes_of}
use Rattle.cn_trees.proofs.Counting.{counted, short, steps_taken}
use Rattle.cn_trees.proofs.Invariant.{fixed_at}
use Rattle.cn_trees.proofs.Stepping.{Kept, first_holds, keeps_schedule}
use Rattle.cn_trees.proofs.Values.{AreOf, IsInput, IsOfLocal, first_are, values_are}

module _ {V : Type 0} (T : PlanTree) (plan : IsPlanTree T) (n : ℕ) (few : n ≤ processes_of T) (inputs : ℕ → V) (schedule : List ℕ) (kept : Kept T inputs (world_after T inputs schedule))
    (are : AreOf (IsInput inputs schedule) inputs (world_after T inputs schedule)) (count : (p : ℕ) → steps_taken T p ((world_after T inputs schedule).locals p) ≡ min (occurrences schedule p) (steps_of T p)) where
  abbrev w : World V
  w = world_after T inputs schedule

  -- every decision is the value that the root has fixed
  fixed : (p : ℕ) (x : V) → p < n → (here : Local V) → w.locals p ≡ here → decision_of here ≡ Some x → fixed_at T w kept.0 0 ≡ Some x
  fixed p x lt (Active i y stage) e d = absurd cc
  fixed p x lt (Decided y) e d = let h : fixed_at T w kept.0 0 ≡ Some y = rw e at (kept.1.local_holds p (omega arith)) in h ∙ d

  of_input : (here : Local V) (own x : V) → IsOfLocal (IsInput inputs schedule) own here → decision_of here ≡ Some x → IsInput inputs schedule x
  of_input (Active i y stage) own x h d = absurd cc
  of_input (Decided y) own x h d = let same : y ≡ x = cc in rw (← same) h

  timely : (p : ℕ) → p < n → (here : Local V) → w.locals p ≡ here → steps_taken T p here ≡ min (occurrences schedule p) (steps_of T p) → IsSome (decision_of here) ↔ (steps_of T p ≤ occurrences schedule p)
  timely p lt (Active i y stage) e h = (λ s. absurd (true≢false (sym s)), λ le. absurd (let l = short T plan inputs w kept p i y stage (omega arith) e in omega arith))
  timely p lt (Decided y) e h = (λ s. omega arith, λ le. refl)

  consensus_of : IsConsensus T n inputs schedule
  consensus_of = record {
    agreement = λ p q x y lp lq ep eq. (let a = fixed p x lp (w.locals p) refl ep in let b = fixed q y lq (w.locals q) refl eq in cc (a, b));
    validity = λ p x lt e. of_input (w.locals p) (inputs p) x (are.locals p) e;
    in_time = λ p lt. timely p lt (w.locals p) refl (count p);
  }

wider : (n m : ℕ) (schedule : List ℕ) → n ≤ m → IsSchedule n schedule → IsSchedule m schedule
wider n m [] le all = tt
wider n m (p ∷ schedule) le all = (let l = all.0 in omega arith, wider n m schedule le all.1)

pub reach_consensus : {V : Type 0} (T : PlanTree) (n : ℕ) → IsPlanTree T → n ≤ processes_of T → (inputs : ℕ → V) (schedule : List ℕ) → IsSchedule n schedule → IsConsensus T n inputs schedule
reach_consensus T n plan few inputs schedule all =
    let first : Kept T inputs (first_world T inputs) = (λ v. [], first_holds T plan inputs) in
    let whole = wider n (processes_of T) schedule few all in
    consensus_of T plan n few inputs schedule
    (keeps_schedule T plan inputs schedule (first_world T inputs) whole first)
    (values_are T inputs [] schedule (first_world T inputs) (first_are T inputs))
    (λ p. counted T plan inputs [] schedule (first_world T inputs) whole first p (omega arith))

-- ---- the number of steps
pub steps_three : (T : PlanTree) (p : ℕ) → ((node : ℕ) → looks_at T node p ≡ false) → (i : ℕ) → steps_before T p i ≡ 3 * i
steps_three T p none zero = refl
steps_three T p none (suc i) = let h = steps_three T p none i in rw (none (place_of T p i).node) (omega arith)

pub steps_four : (T : PlanTree) (p : ℕ) → ((node : ℕ) → looks_at T node p ≡ true) → (i : ℕ) → steps_before T p i ≡ 4 * i
steps_four T p each zero = refl
steps_four T p each (suc i) = let h = steps_four T p each i in rw (each (place_of T p i).node) (omega arith)

pub most_four : (T : PlanTree) (p i : ℕ) → steps_before T p i ≤ 4 * i
most_four T p zero = omega arith
most_four T p (suc i) = go (looks_at T (place_of T p i).node p) refl (most_four T p i)
  where
    go : (b : Bool) → looks_at T (place_of T p i).node p ≡ b → steps_before T p i ≤ 4 * i → steps_before T p i + steps_at T p (place_of T p i) ≤ 4 * suc i
    go true e h = rw e (omega arith)
    go false e h = rw e (omega arith)
