-- A step changes one node and one process. Properties of the rest stay.
use Rattle.std.proofs.Common.{ℕ, zero, suc, ◌≡◌, ◌≢◌, ◌⊎◌, inl, inr, ◌+◌, ◌*◌, ◌≤◌, List, [], ◌∷◌, ◌++◌, slice_get, Option, Some, sym, ◌∙◌, arith, append-nil}
use Rattle.std.specs.List.{AllPairs}
use Rattle.std.proofs.lemmas.Bool.{cases_eq}
use Rattle.cn_agree.proofs.OrderLemmas.{answers_append}
use Rattle.cn_trees.specs.Steps.{Local, Stage, World}
use Rattle.cn_trees.specs.Steps.Local.{Active, Decided}
use Rattle.cn_trees.specs.Steps.Stage.{Write, Apply, Look, Take}
use Rattle.cn_trees.specs.Tree.{Place, PlanTree, place_of}
use Rattle.cn_trees.proofs.Invariant.{Brings, Grows, Holds, IsBrought, IsDone, IsRight, LocalHolds, StageHolds, act_at, first_value, fixed_at, progress, state_at, team_at}

first_value_grows : {V : Type 0} (team : ℕ → ℕ) (registers registers' : ℕ → Option V) (order order' more : List ℕ) (y : V)
    → ((side : ℕ) (z : V) → registers side ≡ Some z → registers' side ≡ Some z) → order' ≡ order ++ more
    → first_value team registers order ≡ Some y → first_value team registers' order' ≡ Some y
first_value_grows team registers registers' [] order' more y kept e h = absurd cc
first_value_grows team registers registers' (head ∷ rest) order' more y kept e h = rw e (kept (team head) y h)

module _ {V : Type 0} (T : PlanTree) (inputs : ℕ → V) (w : World V) (order : ℕ → List ℕ) (w' : World V) (order' : ℕ → List ℕ) (grows : Grows w order w' order') where
  pub fixed_grows : (v : ℕ) (y : V) → fixed_at T w order v ≡ Some y → fixed_at T w' order' v ≡ Some y
  fixed_grows v y h =
      first_value_grows (team_at T v) (w.registers v) (w'.registers v) (order v) (order' v) (grows.orders v).0 y (grows.registers v) (grows.orders v).1 h

  pub brings_grows : (p i : ℕ) (y : V) → Brings T inputs w order p i y → Brings T inputs w' order' p i y
  brings_grows p zero y h = h
  brings_grows p (suc i) y h = fixed_grows (place_of T p i).node y h

  right_grows : (v : ℕ) (before after more : List ℕ) (p response saw : ℕ) → after ≡ before ++ more → IsRight T v before p response saw → IsRight T v after p response saw
  right_grows v [] after more p response saw e h = elim h [ ]
  right_grows v (first ∷ rest) after more p response saw e h = rw e h

  pub stage_grows : (p : ℕ) (here : Place) (x : V) (stage : Stage) → StageHolds T w order p here x stage → StageHolds T w' order' p here x stage
  stage_grows p here x Write h = tt
  stage_grows p here x Apply h = grows.registers here.node here.team x h
  stage_grows p here x (Look response) h = (
    h.0,
    rw (grows.orders here.node).1 (answers_append (act_at T here.node) (T.meeting here.node).start (order here.node) (grows.orders here.node).0 p response h.1),
  )
  stage_grows p here x (Take response saw) h =
      right_grows here.node (order here.node) (order' here.node) (grows.orders here.node).0 p response saw (grows.orders here.node).1 h

  pub local_grows : (p : ℕ) (here : Local V) → LocalHolds T inputs w order p here → LocalHolds T inputs w' order' p here
  local_grows p (Active i x stage) h = (h.0, brings_grows p i x h.1, stage_grows p (place_of T p i) x stage h.2)
  local_grows p (Decided y) h = fixed_grows 0 y h

-- from w to w' process p gets this local state, and node v this state and these registers
pub record Changes {V : Type 0} (w w' : World V) (p : ℕ) (mine : Local V) (v : ℕ) (state : ℕ) (registers : ℕ → Option V) : Type 0 where
  pub local_mine : w'.locals p ≡ mine
  pub local_other : (q : ℕ) → q ≢ p → w'.locals q ≡ w.locals q
  pub state_this : w'.states v ≡ state
  pub state_other : (u : ℕ) → u ≢ v → w'.states u ≡ w.states u
  pub registers_this : w'.registers v ≡ registers
  pub registers_other : (u : ℕ) → u ≢ v → w'.registers u ≡ w.registers u

-- the orders change only at node v, by these processes
pub record Extends (order order' : ℕ → List ℕ) (v : ℕ) (more : List ℕ) : Type 0 where
  pub this : order' v ≡ order v ++ more
  pub other : (u : ℕ) → u ≢ v → order' u ≡ order u

module _ {V : Type 0} (T : PlanTree) (inputs : ℕ → V) (w w' : World V) (order order' : ℕ → List ℕ)
    (holds : Holds T inputs w order) (p : ℕ) (mine : Local V) (v state : ℕ) (registers : ℕ → Option V) (more : List ℕ)
    (changes : Changes w w' p mine v state registers) (extends : Extends order order' v more)
    (kept : (side : ℕ) (y : V) → w.registers v side ≡ Some y → registers side ≡ Some y) where
  pub changes_grow : Grows w order w' order'
  changes_grow = record {
    registers = λ u side y h. elim (cases_eq u v) [
      | inl e ↦ rw (e, changes.registers_this) (kept side y (rw e at h))
      | inr ne ↦ rw (changes.registers_other u ne) h
    ];
    orders = λ u. elim (cases_eq u v) [
      | inl e ↦ (more, rw e extends.this)
      | inr ne ↦ ([], extends.other u ne ∙ sym (append-nil (order u)))
    ];
  }

  pub done_grows : (u q : ℕ) → progress T p (w.locals p) ≤ progress T p mine → IsDone T w u q → IsDone T w' u q
  done_grows u q le d = record {
    at = d.at;
    place = d.place;
    node = d.node;
    applied = elim (cases_eq q p) [
      | inl e ↦ applied_mine d.at e d.applied
      | inr ne ↦ rw (changes.local_other q ne) d.applied
    ];
  }
    where
      applied_mine : (at : ℕ) → q ≡ p → 4 * at + 2 ≤ progress T q (w.locals q) → 4 * at + 2 ≤ progress T q (w'.locals q)
      applied_mine at e h = rw (e, changes.local_mine) (let h' : 4 * at + 2 ≤ progress T p (w.locals p) = rw e at h in omega arith)

  pub keeps_on : state ≡ state_at T v (order v ++ more)
      → AllPairs (λ (x : ℕ) y. x ≢ y) (order v ++ more)
      → ((k q : ℕ) → slice_get (order v ++ more) k ≡ Some q → (slice_get (order v) k ≡ Some q) ⊎ IsDone T w' v q)
      → ((first : ℕ) (rest : List ℕ) → order v ++ more ≡ first ∷ rest → (y : V) × (registers (team_at T v first) ≡ Some y))
      → ((side : ℕ) (y : V) → registers side ≡ Some y → IsBrought T inputs w' order' v side y)
      → LocalHolds T inputs w' order' p mine
      → progress T p (w.locals p) ≤ progress T p mine
      → Holds T inputs w' order'
  keeps_on state_is distinct done written brought mine_holds le = record {
    moved = λ u. elim (cases_eq u v) [
      | inl e ↦ rw (e, changes.state_this, extends.this) state_is
      | inr ne ↦ rw (changes.state_other u ne, extends.other u ne) (holds.moved u)
    ];
    distinct = λ u. elim (cases_eq u v) [
      | inl e ↦ rw (e, extends.this) distinct
      | inr ne ↦ rw (extends.other u ne) (holds.distinct u)
    ];
    done = λ u k q h. elim (cases_eq u v) [
      | inl e ↦ rw e (either k q (done k q (rw (e, extends.this) at h)))
      | inr ne ↦ done_grows u q le (holds.done u k q (rw (extends.other u ne) at h))
    ];
    written = λ u first rest h. elim (cases_eq u v) [
      | inl e ↦ rw (e, changes.registers_this) (written first rest (rw (e, extends.this) at h))
      | inr ne ↦ rw (changes.registers_other u ne) (holds.written u first rest (rw (extends.other u ne) at h))
    ];
    brought = λ u side y h. elim (cases_eq u v) [
      | inl e ↦ rw e (brought side y (rw (e, changes.registers_this) at h))
      | inr ne ↦ brought_grows u side y (holds.brought u side y (rw (changes.registers_other u ne) at h))
    ];
    local_holds = λ q lt. elim (cases_eq q p) [
      | inl e ↦ rw (e, changes.local_mine) mine_holds
      | inr ne ↦ rw (changes.local_other q ne) (local_grows T inputs w order w' order' changes_grow q (w.locals q) (holds.local_holds q lt))
    ];
  }
    where
      either : (k q : ℕ) → (slice_get (order v) k ≡ Some q) ⊎ IsDone T w' v q → IsDone T w' v q
      either k q (inl h) = done_grows v q le (holds.done v k q h)
      either k q (inr d) = d

      brought_grows : (u side : ℕ) (y : V) → IsBrought T inputs w order u side y → IsBrought T inputs w' order' u side y
      brought_grows u side y b = record {
        by = b.by;
        at = b.at;
        place = b.place;
        node = b.node;
        team_is = b.team_is;
        brings = brings_grows T inputs w order w' order' changes_grow b.by b.at y b.brings;
      }
