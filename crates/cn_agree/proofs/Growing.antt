-- Properties of a process that did not act stay.
use Rattle.std.proofs.Common.{ℕ, zero, suc, ◌≡◌, List, [], ◌∷◌, ◌++◌, Some, refl, ◌∙◌}
use Rattle.cn_agree.specs.declared.node.Node.{Node}
use Rattle.cn_choice.specs.declared.team.Team.{Team}
use Rattle.cn_proto.specs.declared.place.Place.{Place}
use Rattle.cn_agree.specs.declared.local.Stage.{Stage}
use Rattle.cn_agree.specs.declared.local.Stage.TheVariants.{Write, Apply, Read, Take}
use Rattle.cn_agree.specs.declared.local.Local.{Local}
use Rattle.cn_agree.specs.declared.local.Local.TheVariants.{NotBegun, Active, Decided}
use Rattle.cn_proto.specs.Order.{after}
use Rattle.cn_proto.specs.Protocol.{ProtocolOfRounds, place_of}
use Rattle.cn_agree.specs.World.{World, node_at, input_at, register}
use Rattle.cn_agree.proofs.OrderLemmas.{answers_append}
use Rattle.cn_agree.proofs.Invariant.{first_value, fixed_at, Brings, IsOfFirst, StageHolds, LocalHolds, Grows}

first_value_grows : {V : Type 0} (team : ℕ → Team) (node node' : Node V) (order order' more : List ℕ) (y : V)
    → ((side : Team) (z : V) → register node side ≡ Some z → register node' side ≡ Some z) → order' ≡ order ++ more
    → first_value team node order ≡ Some y → first_value team node' order' ≡ Some y
first_value_grows team node node' [] order' more y kept e h = absurd cc
first_value_grows team node node' (head ∷ rest) order' more y kept e h = rw e (kept (team head) y h)

module _ {V : Type 0} (P : ProtocolOfRounds) (n : ℕ) (team : ℕ → Team) (w : World V) (order : ℕ → List ℕ) (w' : World V) (order' : ℕ → List ℕ) (grows : Grows P w order w' order') where
  pub fixed_grows : (v : ℕ) (y : V) → fixed_at P team w order v ≡ Some y → fixed_at P team w' order' v ≡ Some y
  fixed_grows v y h =
      first_value_grows team (node_at P w v) (node_at P w' v) (order v) (order' v) (grows.orders v).0 y (grows.registers v) (grows.orders v).1 h

  pub brings_grows : (p i : ℕ) (y : V) → Brings P team w order p i y → Brings P team w' order' p i y
  brings_grows p zero y h = grows.inputs p y h
  brings_grows p (suc i) y h = fixed_grows (place_of P p i).node y h

  of_first_grows : (before after more : List ℕ) (role response state : ℕ) → after ≡ before ++ more → IsOfFirst P n team before role response state → IsOfFirst P n team after role response state
  of_first_grows [] after more role response state e h = elim h [ ]
  of_first_grows (head ∷ rest) after more role response state e h = rw e h

  pub stage_grows : (here : Place) (x : V) (stage : Stage) → StageHolds P n team w order here x stage → StageHolds P n team w' order' here x stage
  stage_grows here x Write h = tt
  stage_grows here x Apply h = grows.registers here.node here.team x h
  stage_grows here x (Read response) h = (
    grows.registers here.node here.team x h.0,
    rw (grows.orders here.node).1 (answers_append P.act P.start (order here.node) (grows.orders here.node).0 here.role response.0 h.1),
  )
  stage_grows here x (Take response state) h =
      of_first_grows (order here.node) (order' here.node) (grows.orders here.node).0 here.role response.0 state.0 (grows.orders here.node).1 h

  pub local_grows : (p : ℕ) (here : Local V) → (here ≡ NotBegun → input_at w' p ≡ input_at w p) → LocalHolds P n team w order p here → LocalHolds P n team w' order' p here
  local_grows p NotBegun same h = same refl ∙ h
  local_grows p (Active i x stage) same h = (h.0, brings_grows p i x h.1, stage_grows (place_of P p i) x stage h.2)
  local_grows p (Decided y) same h = fixed_grows 0 y h
