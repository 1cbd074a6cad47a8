-- The origin of values.
use Rattle.std.proofs.Common.{ℕ, ◌≡◌, ◌⊎◌, inl, inr, Bool, true, false, ◌+◌, List, [], ◌∷◌, ◌++◌, length, Option, Some, None, refl, sym, ◌∙◌, subst, arith, append_assoc, append-nil, nat_lt, Contains}
use Rattle.std.proofs.lemmas.Bool.{cases_eq}
use Rattle.std.proofs.lemmas.List.Elements.{Contains-append_left, Contains-append_right}
use Rattle.cn_unread.specs.Functions.{put}
use Rattle.cn_unread.proofs.Functions.{put-other, put-same}
use Rattle.cn_trees.specs.Steps.{Local, Stage, World, after_action, after_schedule, after_step, after_step_from, behind, first_world, onward, onward_if_found}
use Rattle.cn_trees.specs.Steps.Local.{Active, Decided}
use Rattle.cn_trees.specs.Steps.Stage.{Write, Apply, Look, Take}
use Rattle.cn_trees.specs.Tree.{Place, PlanTree, path_of, place_of}
use Rattle.cn_trees.proofs.Invariant.{act_at, see_at}

-- an active process has one of Q or its own input; a decision is one of Q
abbrev pub IsOfLocal : {V : Type 0} → (V → Type 0) → V → Local V → Type 0
IsOfLocal Q own (Active i x stage) = (own ≡ x) ⊎ Q x
IsOfLocal Q own (Decided y) = Q y

pub record AreOf {V : Type 0} (Q : V → Type 0) (inputs : ℕ → V) (w : World V) : Type 0 where
  pub registers : (v side : ℕ) (y : V) → w.registers v side ≡ Some y → Q y
  pub locals : (p : ℕ) → IsOfLocal Q (inputs p) (w.locals p)

module _ {V : Type 0} (T : PlanTree) (Q : V → Type 0) (inputs : ℕ → V) (w : World V) (are : AreOf Q inputs w) (p : ℕ) (owned : Q (inputs p)) where
  mine_of : (i : ℕ) (x : V) (stage : Stage) → w.locals p ≡ Active i x stage → Q x
  mine_of i x stage e = let h : (inputs p ≡ x) ⊎ Q x = rw e at (are.locals p) in elim h [ inl o ↦ subst Q o owned | inr q ↦ q ]

  locals_of : (here : Local V) → IsOfLocal Q (inputs p) here → (q : ℕ) → IsOfLocal Q (inputs q) (put w.locals p here q)
  locals_of here h q = elim (cases_eq q p) [ inl e ↦ rw (e, put-same w.locals p here) h | inr ne ↦ rw (put-other w.locals p here q ne) (are.locals q) ]

  written_of : (here : Place) (x : V) → Q x → (v side : ℕ) (y : V) → put w.registers here.node (put (w.registers here.node) here.team (Some x)) v side ≡ Some y → Q y
  written_of here x q v side y h = elim (cases_eq v here.node) [
    | inl e ↦ (let h' : put (w.registers here.node) here.team (Some x) side ≡ Some y = rw (e, put-same w.registers here.node (put (w.registers here.node) here.team (Some x))) at h in
        elim (cases_eq side here.team) [
          | inl f ↦ (let g : Some x ≡ Some y = rw (f, put-same (w.registers here.node) here.team (Some x)) at h' in let same : x ≡ y = cc in subst Q same q)
          | inr nf ↦ are.registers here.node side y (sym (put-other (w.registers here.node) here.team (Some x) side nf) ∙ h')
        ])
    | inr ne ↦ are.registers v side y (rw (put-other w.registers here.node (put (w.registers here.node) here.team (Some x)) v ne) at h)
  ]

  onward_of : (y : V) (i : ℕ) → Q y → (more : Bool) → nat_lt (i + 1) (length (path_of T p)) ≡ more → IsOfLocal Q (inputs p) (onward (length (path_of T p)) i y)
  onward_of y i h true is = rw is (inr h)
  onward_of y i h false is = rw is h

  taken_of : (i : ℕ) (x : V) (stage : Stage) (found : Option V) → ((y : V) → found ≡ Some y → Q y) → Q x → IsOfLocal Q (inputs p) (onward_if_found (length (path_of T p)) i (Active i x stage) found)
  taken_of i x stage None h q = inr q
  taken_of i x stage (Some y) h q = onward_of y i (h y refl) (nat_lt (i + 1) (length (path_of T p))) refl

  action_of : (i : ℕ) (x : V) (stage : Stage) (here : Place) → w.locals p ≡ Active i x stage → AreOf Q inputs (after_action T p w i x stage here)
  action_of i x Write here e = let q = mine_of i x Write e in record { registers = written_of here x q; locals = locals_of (Active i x Apply) (inr q) }
  action_of i x Apply here e = let q = mine_of i x Apply e in record { registers = are.registers; locals = locals_of (Active i x (behind T p here (act_at T here.node p (w.states here.node)).0)) (inr q) }
  action_of i x (Look response) here e = let q = mine_of i x (Look response) e in record { registers = are.registers; locals = locals_of (Active i x (Take response (see_at T here.node p (w.states here.node)))) (inr q) }
  action_of i x (Take response saw) here e =
      let q = mine_of i x (Take response saw) e in
      let side : ℕ = T.judge here.node p response saw in
      record {
        registers = are.registers;
        locals = locals_of (onward_if_found (length (path_of T p)) i (Active i x (Take response saw)) (w.registers here.node side))
            (taken_of i x (Take response saw) (w.registers here.node side) (are.registers here.node side) q);
      }

  pub step_of : AreOf Q inputs (after_step T p w)
  step_of = go (w.locals p) refl
    where
      go : (here : Local V) → w.locals p ≡ here → AreOf Q inputs (after_step_from T p w here)
      go (Active i x stage) e = action_of i x stage (place_of T p i) e
      go (Decided y) e = are

-- the same for a larger Q
pub are_more : {V : Type 0} (Q Q' : V → Type 0) (inputs : ℕ → V) (w : World V) → ((y : V) → Q y → Q' y) → AreOf Q inputs w → AreOf Q' inputs w
are_more {V = V} Q Q' inputs w more are = record {
  registers = λ v side y h. more y (are.registers v side y h);
  locals = λ q. local_more q (w.locals q) (are.locals q);
}
  where
    local_more : (q : ℕ) (here : Local V) → IsOfLocal Q (inputs q) here → IsOfLocal Q' (inputs q) here
    local_more q (Active i y stage) (inl h) = inl h
    local_more q (Active i y stage) (inr h) = inr (more y h)
    local_more q (Decided y) h = more y h

-- the input of a process of this schedule
abbrev pub IsInput : {V : Type 0} → (ℕ → V) → List ℕ → V → Type 0
IsInput inputs schedule y = (q : ℕ) × Contains schedule q × (inputs q ≡ y)

-- after a schedule every value in a register, and every decision, is the input of a process that it has
pub values_are : {V : Type 0} (T : PlanTree) (inputs : ℕ → V) (before schedule : List ℕ) (w : World V) → AreOf (IsInput inputs before) inputs w → AreOf (IsInput inputs (before ++ schedule)) inputs (after_schedule T schedule w)
values_are T inputs before [] w are = are_more (IsInput inputs before) (IsInput inputs (before ++ [])) inputs w (λ y h. rw append-nil h) are
values_are {V = V} T inputs before (p ∷ schedule) w are =
    let now : List ℕ = before ++ p ∷ [] in
    let more : AreOf (IsInput inputs now) inputs w = are_more (IsInput inputs before) (IsInput inputs now) inputs w (λ y h. (h.0, Contains-append_left before (p ∷ []) h.0 h.1, h.2)) are in
    let Is : List ℕ → Type 0 = λ s. AreOf (IsInput inputs s) inputs (after_schedule T schedule (after_step T p w)) in
    subst Is (append_assoc before (p ∷ []) schedule)
    (values_are T inputs now schedule (after_step T p w)
    (step_of T (IsInput inputs now) inputs w more p (p, Contains-append_right before (p ∷ []) p (0, omega arith, refl), refl)))

pub first_are : {V : Type 0} (T : PlanTree) (inputs : ℕ → V) → AreOf (IsInput inputs []) inputs (first_world T inputs)
first_are T inputs = record { registers = λ v side y h. absurd cc; locals = λ p. inl refl }
