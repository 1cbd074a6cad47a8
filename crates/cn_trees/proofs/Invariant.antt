-- The invariant of every step.
use Rattle.std.proofs.Common.{ℕ, zero, suc, ◌≡◌, ◌≢◌, ◌+◌, ◌*◌, ◌<◌, ◌≤◌, List, [], ◌∷◌, ◌++◌, length, slice_get, Option, Some, None, true}
use Rattle.std.specs.List.{AllPairs}
use Rattle.cn_proto.specs.Order.{after, IsAnswered}
use Rattle.cn_meetings.specs.Meeting.{act, see}
use Rattle.cn_trees.specs.Steps.{Local, Stage, World, looks_at}
use Rattle.cn_trees.specs.Steps.Local.{Active, Decided}
use Rattle.cn_trees.specs.Steps.Stage.{Write, Apply, Look, Take}
use Rattle.cn_trees.specs.Tree.{IsPlace, Place, PlanTree, path_of, place_of, processes_of, team_in}

-- the operations, the sights and the teams of the processes at a node
abbrev pub act_at : PlanTree → ℕ → ℕ → ℕ → ℕ × ℕ
act_at T v = act T.table (T.meeting v)

abbrev pub see_at : PlanTree → ℕ → ℕ → ℕ → ℕ
see_at T v = see T.table (T.meeting v)

abbrev pub team_at : PlanTree → ℕ → ℕ → ℕ
team_at T v = team_in T.teams v

-- the state of the object of a node after the operations of these processes
abbrev pub state_at : PlanTree → ℕ → List ℕ → ℕ
state_at T v order = after (act_at T v) (T.meeting v).start order

-- how far a process has come; one that does not look passes over one of the four actions
abbrev pub index : Stage → ℕ
index Write = 0
index Apply = 1
index (Look response) = 2
index (Take response saw) = 3

abbrev pub progress : {V : Type 0} → PlanTree → ℕ → Local V → ℕ
progress T p (Active i x stage) = 4 * i + index stage
progress T p (Decided y) = 4 * length (path_of T p)

-- the value in the register of the team that came first
abbrev pub first_value : {V : Type 0} → (ℕ → ℕ) → (ℕ → Option V) → List ℕ → Option V
first_value team registers [] = None
first_value team registers (p ∷ order) = registers (team p)

-- the value that a node has fixed, after the operations of these processes
abbrev pub fixed_at : {V : Type 0} → PlanTree → World V → (ℕ → List ℕ) → ℕ → Option V
fixed_at T w order v = first_value (team_at T v) (w.registers v) (order v)

-- y is the value with which p comes to place i of its path
abbrev pub Brings : {V : Type 0} → PlanTree → (ℕ → V) → World V → (ℕ → List ℕ) → ℕ → ℕ → V → Type 0
Brings T inputs w order p zero y = inputs p ≡ y
Brings T inputs w order p (suc i) y = fixed_at T w order (place_of T p i).node ≡ Some y

-- p judges that the team came first which did
abbrev pub IsRight : PlanTree → ℕ → List ℕ → ℕ → ℕ → ℕ → Type 0
IsRight T v [] p response saw = ⊥
IsRight T v (first ∷ rest) p response saw = T.judge v p response saw ≡ team_at T v first

abbrev pub StageHolds : {V : Type 0} → PlanTree → World V → (ℕ → List ℕ) → ℕ → Place → V → Stage → Type 0
StageHolds T w order p here x Write = Unit {0}
StageHolds T w order p here x Apply = w.registers here.node here.team ≡ Some x
StageHolds T w order p here x (Look response) =
    (looks_at T here.node p ≡ true) × IsAnswered (act_at T here.node) (T.meeting here.node).start (order here.node) p response
StageHolds T w order p here x (Take response saw) = IsRight T here.node (order here.node) p response saw

abbrev pub LocalHolds : {V : Type 0} → PlanTree → (ℕ → V) → World V → (ℕ → List ℕ) → ℕ → Local V → Type 0
LocalHolds T inputs w order p (Active i x stage) =
    IsPlace T p i × Brings T inputs w order p i x × StageHolds T w order p (place_of T p i) x stage
LocalHolds T inputs w order p (Decided y) = fixed_at T w order 0 ≡ Some y

-- the process has applied its operation at the node
pub record IsDone {V : Type 0} (T : PlanTree) (w : World V) (v p : ℕ) : Type 0 where
  pub at : ℕ
  pub place : IsPlace T p at
  pub node : (place_of T p at).node ≡ v
  pub applied : 4 * at + 2 ≤ progress T p (w.locals p)

-- a process of this team brought y to the register of the team at this node
pub record IsBrought {V : Type 0} (T : PlanTree) (inputs : ℕ → V) (w : World V) (order : ℕ → List ℕ) (v side : ℕ) (y : V) : Type 0 where
  pub by : ℕ
  pub at : ℕ
  pub place : IsPlace T by at
  pub node : (place_of T by at).node ≡ v
  pub team_is : (place_of T by at).team ≡ side
  pub brings : Brings T inputs w order by at y

pub record Holds {V : Type 0} (T : PlanTree) (inputs : ℕ → V) (w : World V) (order : ℕ → List ℕ) : Type 0 where
  -- the state of the object is that after the operations so far
  pub moved : (v : ℕ) → w.states v ≡ state_at T v (order v)
  pub distinct : (v : ℕ) → AllPairs (λ (x : ℕ) y. x ≢ y) (order v)
  pub done : (v k p : ℕ) → slice_get (order v) k ≡ Some p → IsDone T w v p
  -- the register of the first process's team is written
  pub written : (v first : ℕ) (rest : List ℕ) → order v ≡ first ∷ rest → (y : V) × (w.registers v (team_at T v first) ≡ Some y)
  pub brought : (v side : ℕ) (y : V) → w.registers v side ≡ Some y → IsBrought T inputs w order v side y
  pub local_holds : (p : ℕ) → p < processes_of T → LocalHolds T inputs w order p (w.locals p)

-- all that only grows: written registers, and the orders
pub record Grows {V : Type 0} (w : World V) (order : ℕ → List ℕ) (w' : World V) (order' : ℕ → List ℕ) : Type 0 where
  pub registers : (v side : ℕ) (y : V) → w.registers v side ≡ Some y → w'.registers v side ≡ Some y
  pub orders : (v : ℕ) → (more : List ℕ) × (order' v ≡ order v ++ more)
