-- The invariant of every step of a round.
use Rattle.std.proofs.Common.{ℕ, zero, suc, ◌≡◌, ◌≢◌, ◌+◌, ◌*◌, ◌<◌, ◌≤◌, List, [], ◌∷◌, ◌++◌, length, slice_get, Option, Some, None}
use Rattle.std.specs.List.{AllPairs}
use Rattle.cn_agree.specs.declared.node.Node.{Node}
use Rattle.cn_choice.specs.declared.team.Team.{Team}
use Rattle.cn_proto.specs.declared.place.Place.{Place}
use Rattle.cn_agree.specs.declared.local.Stage.{Stage}
use Rattle.cn_agree.specs.declared.local.Stage.TheVariants.{Write, Apply, Read, Take}
use Rattle.cn_agree.specs.declared.local.Local.{Local}
use Rattle.cn_agree.specs.declared.local.Local.TheVariants.{NotBegun, Active, Decided}
use Rattle.cn_proto.specs.Order.{after, IsAnswered, IsRun}
use Rattle.cn_proto.specs.Protocol.{ProtocolOfRounds, place_of}
use Rattle.cn_agree.specs.World.{World, node_at, local_at, input_at, register}
use Rattle.cn_agree.specs.Rounds.{steps_taken}
use Rattle.cn_proto.specs.Sound.{IsPlace}

-- the value in the register of the team that came first
abbrev pub first_value : {V : Type 0} → (ℕ → Team) → Node V → List ℕ → Option V
first_value team node [] = None
first_value team node (role ∷ roles) = register node (team role)

-- the value that a node has fixed, after these roles were applied there in this order
abbrev pub fixed_at : {V : Type 0} → ProtocolOfRounds → (ℕ → Team) → World V → (ℕ → List ℕ) → ℕ → Option V
fixed_at P team w order v = first_value team (node_at P w v) (order v)

-- the team that came first
abbrev pub first_team : (ℕ → Team) → List ℕ → Option Team
first_team team [] = None
first_team team (role ∷ roles) = Some (team role)

-- y is the value with which p comes to place i of its path
abbrev pub Brings : {V : Type 0} → ProtocolOfRounds → (ℕ → Team) → World V → (ℕ → List ℕ) → ℕ → ℕ → V → Type 0
Brings P team w order p zero y = input_at w p ≡ Some y
Brings P team w order p (suc i) y = fixed_at P team w order (place_of P p i).node ≡ Some y

-- the role has the pair after an order that begins in the team
pub record IsResult (act : ℕ → ℕ → ℕ × ℕ) (start : ℕ) (team : ℕ → Team) (n : ℕ) (side : Team) (role response state : ℕ) : Type 0 where
  pub order : List ℕ
  pub run : IsRun n team side order
  pub answered : IsAnswered act start order role response
  pub ends : after act start order ≡ state

-- the pair belongs to the team that came first
abbrev pub IsOfFirst : ProtocolOfRounds → ℕ → (ℕ → Team) → List ℕ → ℕ → ℕ → ℕ → Type 0
IsOfFirst P n team [] role response state = ⊥
IsOfFirst P n team (head ∷ rest) role response state = IsResult P.act P.start team n (team head) role response state

abbrev pub StageHolds : {V : Type 0} → ProtocolOfRounds → ℕ → (ℕ → Team) → World V → (ℕ → List ℕ) → Place → V → Stage → Type 0
StageHolds P n team w order here x Write = Unit {0}
StageHolds P n team w order here x Apply = register (node_at P w here.node) here.team ≡ Some x
StageHolds P n team w order here x (Read response) =
    (register (node_at P w here.node) here.team ≡ Some x) × IsAnswered P.act P.start (order here.node) here.role response.0
StageHolds P n team w order here x (Take response state) = IsOfFirst P n team (order here.node) here.role response.0 state.0

abbrev pub LocalHolds : {V : Type 0} → ProtocolOfRounds → ℕ → (ℕ → Team) → World V → (ℕ → List ℕ) → ℕ → Local V → Type 0
LocalHolds P n team w order p NotBegun = input_at w p ≡ None
LocalHolds P n team w order p (Active i x stage) =
    IsPlace P n p i × Brings P team w order p i x × StageHolds P n team w order (place_of P p i) x stage
LocalHolds P n team w order p (Decided y) = fixed_at P team w order 0 ≡ Some y

-- the role was applied at the node by its holder
pub record IsDone {V : Type 0} (P : ProtocolOfRounds) (n : ℕ) (w : World V) (v : ℕ) (role : ℕ) : Type 0 where
  pub by : ℕ
  pub at : ℕ
  pub place : IsPlace P n by at
  pub node : (place_of P by at).node ≡ v
  pub role_is : (place_of P by at).role ≡ role
  pub applied : 4 * at + 2 ≤ steps_taken P by (local_at w by)

-- a process of this team brought y to the register of the team at this node
pub record IsBrought {V : Type 0} (P : ProtocolOfRounds) (n : ℕ) (team : ℕ → Team) (w : World V) (order : ℕ → List ℕ) (v : ℕ) (side : Team) (y : V) : Type 0 where
  pub by : ℕ
  pub at : ℕ
  pub place : IsPlace P n by at
  pub node : (place_of P by at).node ≡ v
  pub team_is : (place_of P by at).team ≡ side
  pub brings : Brings P team w order by at y

pub record Holds {V : Type 0} (P : ProtocolOfRounds) (n : ℕ) (nodes : ℕ) (team : ℕ → Team) (w : World V) (order : ℕ → List ℕ) : Type 0 where
  pub nodes_are : length w.nodes ≡ nodes
  pub locals_are : length w.locals ≡ n
  pub inputs_are : length w.inputs ≡ n
  pub first_is : w.first ≡ first_team team (order 0)
  -- the state of the object is that after the roles applied so far
  pub moved : (v : ℕ) → (node_at P w v).state.0 ≡ after P.act P.start (order v)
  pub distinct : (v : ℕ) → AllPairs (λ (x : ℕ) y. x ≢ y) (order v)
  pub done : (v k role : ℕ) → slice_get (order v) k ≡ Some role → IsDone P n w v role
  -- if a role was applied, the register of the first role's team is written
  pub written : (v head : ℕ) (rest : List ℕ) → order v ≡ head ∷ rest → (y : V) × (register (node_at P w v) (team head) ≡ Some y)
  pub brought : (v : ℕ) (side : Team) (y : V) → register (node_at P w v) side ≡ Some y → IsBrought P n team w order v side y
  pub local_holds : (p : ℕ) → p < n → LocalHolds P n team w order p (local_at w p)

-- all that only grows: written registers, inputs, and the orders
pub record Grows {V : Type 0} (P : ProtocolOfRounds) (w : World V) (order : ℕ → List ℕ) (w' : World V) (order' : ℕ → List ℕ) : Type 0 where
  pub registers : (v : ℕ) (side : Team) (y : V) → register (node_at P w v) side ≡ Some y → register (node_at P w' v) side ≡ Some y
  pub inputs : (p : ℕ) (y : V) → input_at w p ≡ Some y → input_at w' p ≡ Some y
  pub orders : (v : ℕ) → (more : List ℕ) × (order' v ≡ order v ++ more)
