-- Atomic steps: a step touches one object or one register, and its effect depends on nothing else
-- that is shared.
use Rattle.std.specs.Prelude.{ℕ, ◌≡◌, ◌≢◌, ◌⊎◌, ◌<◌, length, Option, Some, None}
use Rattle.cn_choice.specs.declared.team.Team.{Team}
use Rattle.cn_proto.specs.Protocol.{ProtocolOfRounds, place_of}
use Rattle.cn_proto.specs.declared.place.Place.{Place}
use Rattle.cn_agree.specs.declared.node.Node.{Node}
use Rattle.cn_agree.specs.declared.local.Stage.{Stage}
use Rattle.cn_agree.specs.declared.local.Stage.TheVariants.{Write, Apply, Read, Take}
use Rattle.cn_agree.specs.declared.local.Local.TheVariants.{Active}
use Rattle.cn_agree.specs.World.{World, node_at, local_at, register}
use Rattle.cn_agree.specs.Steps.{after_step}

-- the shared parts of a node: its object, and the register of each team
pub data SharedPart : Type 0 where
  Object : SharedPart
  Register : Team → SharedPart

-- the content of a part: the state of the object, or the value in the register
pub data Content (V : Type 0) : Type 0 where
  State : ℕ → Content V
  Value : Option V → Content V

abbrev pub content : {V : Type 0} → Node V → SharedPart → Content V
content node Object = State node.state.0
content node (Register team) = Value (register node team)

-- the part that the next action touches: the register of the process's team, twice the object, and
-- the register of the team that it judges to have come first
abbrev pub part_touched : ProtocolOfRounds → Place → Stage → SharedPart
part_touched P here Write = Register here.team
part_touched P here Apply = Object
part_touched P here (Read response) = Object
part_touched P here (Take response state) = Register (P.judge here.role response.0 state.0)

-- process p, at its i-th place, goes from w to w' by one action: all stays but the part that it
-- touches at its node, its own local state, and the record of the first application at the root
pub record ActsOnce {V : Type 0} (P : ProtocolOfRounds) (p i : ℕ) (x : V) (stage : Stage)
    (w w' : World V) : Type 0 where
  -- every other object and register, here and at the other nodes
  pub other_parts : (part : SharedPart) → part ≢ part_touched P (place_of P p i) stage
      → content (node_at P w' (place_of P p i).node) part
      ≡ content (node_at P w (place_of P p i).node) part
  pub other_nodes : (v : ℕ) → v ≢ (place_of P p i).node → node_at P w' v ≡ node_at P w v
  pub other_processes : (q : ℕ) → q ≢ p → local_at w' q ≡ local_at w q
  pub inputs : w'.inputs ≡ w.inputs
  -- the record is written once, by an application at the root, with the team of the process
  pub recorded : (w'.first ≡ w.first) ⊎ ((w.first ≡ None) × (w'.first ≡ Some (place_of P p i).team)
      × ((place_of P p i).node ≡ 0) × (stage ≡ Apply))

-- two worlds look alike to process p: its local state is the same, and so is the part that its
-- action touches
pub record LooksAlike {V : Type 0} (P : ProtocolOfRounds) (p i : ℕ) (x : V) (stage : Stage)
    (w u : World V) : Type 0 where
  pub here : local_at w p ≡ Active i x stage
  pub there : local_at u p ≡ Active i x stage
  pub shared : content (node_at P w (place_of P p i).node) (part_touched P (place_of P p i) stage)
      ≡ content (node_at P u (place_of P p i).node) (part_touched P (place_of P p i) stage)

-- both worlds have the node of this place
pub record HasPlace {V : Type 0} (P : ProtocolOfRounds) (p i : ℕ) (w u : World V) : Type 0 where
  pub here : (place_of P p i).node < length w.nodes
  pub there : (place_of P p i).node < length u.nodes

-- a step of p is one action; in two worlds that look alike to p it leads to the same local state
-- and the same content of the part touched
pub record IsAtomic (V : Type 0) (P : ProtocolOfRounds) (p : ℕ) : Type 0 where
  pub one_action : (w : World V) (i : ℕ) (x : V) (stage : Stage) → local_at w p ≡ Active i x stage
      → ActsOnce P p i x stage w (after_step P p w)
  pub local : (w u : World V) (i : ℕ) (x : V) (stage : Stage) → LooksAlike P p i x stage w u
      → local_at (after_step P p w) p ≡ local_at (after_step P p u) p
  pub shared : (w u : World V) (i : ℕ) (x : V) (stage : Stage) → HasPlace P p i w u
      → LooksAlike P p i x stage w u
      → content (node_at P (after_step P p w) (place_of P p i).node)
      (part_touched P (place_of P p i) stage)
      ≡ content (node_at P (after_step P p u) (place_of P p i).node)
      (part_touched P (place_of P p i) stage)
