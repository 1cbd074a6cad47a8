-- The steps that a process has taken.
use Rattle.std.proofs.Common.{ℕ, zero, suc, ◌≡◌, ◌≢◌, inl, inr, Bool, true, false, ◌+◌, ◌-◌, ◌<◌, ◌≤◌, min, List, [], ◌∷◌, ◌++◌, length, refl, sym, ap, ◌∙◌, subst, arith, append_assoc, append-nil, nat_lt}
use Rattle.std.proofs.lemmas.Bool.{cases_eq}
use Rattle.std.proofs.lemmas.Bool.Decides.{nat_tests}
use Rattle.cn_agree.proofs.Lists.{count_elsewhere, count_here}
use Rattle.cn_agree.specs.Consensus.{IsSchedule, occurrences}
use Rattle.cn_unread.proofs.Functions.{put-other, put-same}
use Rattle.cn_trees.specs.Consensus.{steps_at, steps_before, steps_of}
use Rattle.cn_trees.specs.Steps.{Local, Stage, World, after_action, after_schedule, after_step, after_step_from, behind, looks_at, onward}
use Rattle.cn_trees.specs.Steps.Local.{Active, Decided}
use Rattle.cn_trees.specs.Steps.Stage.{Write, Apply, Look, Take}
use Rattle.cn_trees.specs.Tree.{IsPlanTree, Place, PlanTree, path_of, place_of, processes_of}
use Rattle.cn_trees.proofs.Invariant.{StageHolds}
use Rattle.cn_trees.proofs.Stepping.{Kept, found_is, keeps_step}

-- the actions done at a place
abbrev pub done_at : PlanTree → ℕ → Place → Stage → ℕ
done_at T p here Write = 0
done_at T p here Apply = 1
done_at T p here (Look response) = 2
done_at T p here (Take response saw) = steps_at T p here - 1

abbrev pub steps_taken : {V : Type 0} → PlanTree → ℕ → Local V → ℕ
steps_taken T p (Active i x stage) = steps_before T p i + done_at T p (place_of T p i) stage
steps_taken T p (Decided y) = steps_of T p

-- three or four
few : (T : PlanTree) (p : ℕ) (here : Place) → (3 ≤ steps_at T p here) × (steps_at T p here ≤ 4)
few T p here = go (looks_at T here.node p) refl
  where
    go : (looks : Bool) → looks_at T here.node p ≡ looks → (3 ≤ steps_at T p here) × (steps_at T p here ≤ 4)
    go true is = rw is (omega arith, omega arith)
    go false is = rw is (omega arith, omega arith)

-- at a place fewer are done than there are
fewer : {V : Type 0} (T : PlanTree) (w : World V) (order : ℕ → List ℕ) (p : ℕ) (here : Place) (x : V) (stage : Stage) → StageHolds T w order p here x stage → done_at T p here stage + 1 ≤ steps_at T p here
fewer T w order p here x Write h = let f = few T p here in omega arith
fewer T w order p here x Apply h = let f = few T p here in omega arith
fewer T w order p here x (Look response) h = rw h.0 (omega arith)
fewer T w order p here x (Take response saw) h = let f = few T p here in omega arith

grows_to : (T : PlanTree) (p i j : ℕ) → i ≤ j → steps_before T p i ≤ steps_before T p j
grows_to T p i zero le = let e : i ≡ 0 = omega arith in rw e (omega arith)
grows_to T p i (suc j) le = elim (cases_eq i (suc j)) [
  | inl e ↦ rw e (omega arith)
  | inr ne ↦ (let h = grows_to T p i j (omega arith) in omega arith)
]

module _ {V : Type 0} (T : PlanTree) (plan : IsPlanTree T) (inputs : ℕ → V) where
  -- an active process has steps left
  pub short : (w : World V) → Kept T inputs w → (p i : ℕ) (x : V) (stage : Stage) → p < processes_of T → w.locals p ≡ Active i x stage → steps_before T p i + done_at T p (place_of T p i) stage + 1 ≤ steps_of T p
  short w kept p i x stage lt e =
      let mine = rw e at (kept.1.local_holds p lt) in
      let inside : i < length (path_of T p) = mine.0.1 in
      let whole : steps_before T p (suc i) ≤ steps_of T p = grows_to T p (suc i) (length (path_of T p)) (omega arith) in
      let here = fewer T w kept.0 p (place_of T p i) x stage mine.2 in
      omega arith

  behind_one : (i p : ℕ) (x : V) (looks : Bool) (response : ℕ) → looks_at T (place_of T p i).node p ≡ looks
      → steps_taken T p (Active i x (behind T p (place_of T p i) response)) ≡ suc (steps_before T p i + 1)
  behind_one i p x true response is = rw is (omega arith)
  behind_one i p x false response is = rw (is, is) (omega arith)

  onward_one : (i p : ℕ) (y : V) → i < length (path_of T p) → (more : Bool) → nat_lt (i + 1) (length (path_of T p)) ≡ more
      → steps_taken T p (onward (length (path_of T p)) i y) ≡ suc (steps_before T p i + (steps_at T p (place_of T p i) - 1))
  onward_one i p y inside true is =
      let f = few T p (place_of T p i) in
      let suc_is : i + 1 ≡ suc i = omega arith in
      rw is (rw suc_is (omega arith))
  onward_one i p y inside false is =
      let f = few T p (place_of T p i) in
      let all : length (path_of T p) ≡ suc i = (let h' : length (path_of T p) ≤ i + 1 = grind (arith, nat_tests) in omega arith) in
      rw is (ap (steps_before T p) all ∙ omega arith)

  -- a step of a process that has not decided adds one to its count
  abbrev IsOneMore : ℕ → Local V → Local V → Type 0
  IsOneMore p (Active i x stage) after = steps_taken T p after ≡ suc (steps_before T p i + done_at T p (place_of T p i) stage)
  IsOneMore p (Decided y) after = after ≡ Decided y

  one_more : (w : World V) → Kept T inputs w → (p : ℕ) → p < processes_of T → IsOneMore p (w.locals p) ((after_step T p w).locals p)
  one_more w kept p lt = go (w.locals p) refl
    where
      staged : (i : ℕ) (x : V) (stage : Stage) → w.locals p ≡ Active i x stage → IsOneMore p (Active i x stage) ((after_action T p w i x stage (place_of T p i)).locals p)
      staged i x Write e = rw (put-same w.locals p (Active i x Apply)) (omega arith)
      staged i x Apply e = rw (put-same w.locals p _) (behind_one i p x (looks_at T (place_of T p i).node p) _ refl)
      staged i x (Look response) e =
          let mine = rw e at (kept.1.local_holds p lt) in
          rw (put-same w.locals p _) (rw mine.2.0 (omega arith))
      staged i x (Take response saw) e =
          let mine = rw e at (kept.1.local_holds p lt) in
          let v : ℕ = (place_of T p i).node in
          let found = found_is T plan inputs w kept.0 kept.1 p i lt x v response saw (kept.0 v) refl mine.2 in
          rw (found.1, put-same w.locals p (onward (length (path_of T p)) i found.0)) (onward_one i p found.0 mine.0.1 (nat_lt (i + 1) (length (path_of T p))) refl)

      go : (here : Local V) → w.locals p ≡ here → IsOneMore p here ((after_step_from T p w here).locals p)
      go (Active i x stage) e = staged i x stage e
      go (Decided y) e = e

  step_count : (w : World V) → Kept T inputs w → (p : ℕ) → p < processes_of T
      → steps_taken T p ((after_step T p w).locals p) ≡ min (steps_taken T p (w.locals p) + 1) (steps_of T p)
  step_count w kept p lt = go (w.locals p) ((after_step T p w).locals p) refl (one_more w kept p lt)
    where
      go : (here there : Local V) → w.locals p ≡ here → IsOneMore p here there → steps_taken T p there ≡ min (steps_taken T p here + 1) (steps_of T p)
      go (Active i x stage) there e h = let s = short w kept p i x stage lt e in omega (arith, h)
      go (Decided y) there e h = ap (steps_taken T p) h ∙ omega arith

  -- a step of another process keeps a local state
  other_local : (w : World V) (p q : ℕ) → q ≢ p → (after_step T p w).locals q ≡ w.locals q
  other_local w p q ne = go (w.locals p)
    where
      staged : (i : ℕ) (x : V) (stage : Stage) → (after_action T p w i x stage (place_of T p i)).locals q ≡ w.locals q
      staged i x Write = put-other w.locals p _ q ne
      staged i x Apply = put-other w.locals p _ q ne
      staged i x (Look response) = put-other w.locals p _ q ne
      staged i x (Take response saw) = put-other w.locals p _ q ne

      go : (here : Local V) → (after_step_from T p w here).locals q ≡ w.locals q
      go (Active i x stage) = staged i x stage
      go (Decided y) = refl

  -- a process has taken a step for each time that the schedule names it, up to its last step
  pub counted : (before schedule : List ℕ) (w : World V) → IsSchedule (processes_of T) schedule → Kept T inputs w → (q : ℕ) → steps_taken T q (w.locals q) ≡ min (occurrences before q) (steps_of T q)
      → steps_taken T q ((after_schedule T schedule w).locals q) ≡ min (occurrences (before ++ schedule) q) (steps_of T q)
  counted before [] w all kept q h = rw append-nil h
  counted before (p ∷ schedule) w all kept q h =
      let Is : List ℕ → Type 0 = λ s. steps_taken T q ((after_schedule T schedule (after_step T p w)).locals q) ≡ min (occurrences s q) (steps_of T q) in
      subst Is (append_assoc before (p ∷ []) schedule)
      (counted (before ++ p ∷ []) schedule (after_step T p w) all.1 (keeps_step T plan inputs w kept p all.0) q (elim (cases_eq p q) [ inl same ↦ mine q same h | inr ne ↦ apart ne ]))
    where
      mine : (q : ℕ) → p ≡ q → steps_taken T q (w.locals q) ≡ min (occurrences before q) (steps_of T q) → steps_taken T q ((after_step T p w).locals q) ≡ min (occurrences (before ++ p ∷ []) q) (steps_of T q)
      mine q same h =
          let h' : steps_taken T p (w.locals p) ≡ min (occurrences before p) (steps_of T p) = rw (← same) at h in
          let s = step_count w kept p all.0 in
          let c = count_here p p before refl in
          rw (← same) (omega arith)

      apart : p ≢ q → steps_taken T q ((after_step T p w).locals q) ≡ min (occurrences (before ++ p ∷ []) q) (steps_of T q)
      apart ne = rw (other_local w p q (λ e. ne (sym e)), count_elsewhere q p before ne) h
