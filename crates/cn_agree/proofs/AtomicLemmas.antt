-- A step is one atomic action.
use Rattle.std.proofs.Common.{ℕ, zero, suc, ◌≡◌, ◌≢◌, ◌⊎◌, inl, inr, ◌<◌, List, [], ◌∷◌, length, slice_set, slice_index_or, Option, Some, None, refl, sym, ap, ◌∙◌, arith, subst, get_or-set_same, get_or-set_other}
use Rattle.cn_table.specs.declared.elements.State.{State as StateOf}
use Rattle.cn_choice.specs.declared.team.Team.{Team}
use Rattle.cn_choice.specs.declared.team.Team.TheVariants.{A, B}
use Rattle.cn_proto.specs.Protocol.{ProtocolOfRounds, place_of}
use Rattle.cn_proto.specs.declared.place.Place.{Place}
use Rattle.cn_agree.specs.declared.node.Node.{Node}
use Rattle.cn_agree.specs.declared.local.Stage.{Stage}
use Rattle.cn_agree.specs.declared.local.Stage.TheVariants.{Write, Apply, Read, Take}
use Rattle.cn_agree.specs.declared.local.Local.{Local}
use Rattle.cn_agree.specs.declared.local.Local.TheVariants.{NotBegun, Active}
use Rattle.cn_agree.specs.World.{World, node_at, local_at, register, with_register, fresh_node}
use Rattle.cn_agree.specs.Steps.{node_after, local_after, first_after, first_recorded, onward_if_found, after_action, after_step, after_step_from}
use Rattle.cn_agree.specs.AtomicStep.{SharedPart, Object, Register, State, Value, content, part_touched, ActsOnce, HasPlace, LooksAlike, IsAtomic}
use Rattle.cn_agree.proofs.Actions.{register_mine}

-- a write changes only its register
write_leaves : {V : Type 0} (node : Node V) (mine : Team) (x : V) (part : SharedPart) → part ≢ Register mine → content (with_register node mine x) part ≡ content node part
write_leaves node A x Object ne = refl
write_leaves node B x Object ne = refl
write_leaves node A x (Register A) ne = absurd (ne refl)
write_leaves node A x (Register B) ne = refl
write_leaves node B x (Register A) ne = refl
write_leaves node B x (Register B) ne = absurd (ne refl)

-- an application changes only the object
apply_leaves : {V : Type 0} (node : Node V) (state : StateOf) (part : SharedPart) → part ≢ Object → content (record node { state = state }) part ≡ content node part
apply_leaves node state Object ne = absurd (ne refl)
apply_leaves node state (Register A) ne = refl
apply_leaves node state (Register B) ne = refl

leaves : {V : Type 0} (P : ProtocolOfRounds) (here : Place) (x : V) (stage : Stage) (node : Node V) (part : SharedPart) → part ≢ part_touched P here stage
    → content (node_after P here x stage node) part ≡ content node part
leaves P here x Write node part ne = write_leaves node here.team x part ne
leaves P here x Apply node part ne = apply_leaves node (record { 0 = (P.act here.role node.state.0).1 }) part ne
leaves P here x (Read response) node part ne = refl
leaves P here x (Take response state) node part ne = refl

-- two nodes with the same content of the part touched lead to the same local state
reads_alike : {V : Type 0} (P : ProtocolOfRounds) (places i : ℕ) (here : Place) (x : V) (stage : Stage) (node other : Node V)
    → content node (part_touched P here stage) ≡ content other (part_touched P here stage)
    → local_after P places i here x stage node ≡ local_after P places i here x stage other
reads_alike P places i here x Write node other e = refl
reads_alike P places i here x Apply node other e =
    let same : node.state.0 ≡ other.state.0 = cc in
    ap (λ s. Active i x (Read (record { 0 = (P.act here.role s).0 }))) same
reads_alike P places i here x (Read response) node other e =
    let same : node.state.0 ≡ other.state.0 = cc in
    ap (λ s. Active i x (Take response (record { 0 = s }))) same
reads_alike P places i here x (Take response state) node other e =
    let same : register node (P.judge here.role response.0 state.0) ≡ register other (P.judge here.role response.0 state.0) = cc in
    ap (onward_if_found places i (Active i x (Take response state))) same

-- two nodes with the same content of the part touched have the same content there afterwards
leaves_alike : {V : Type 0} (P : ProtocolOfRounds) (here : Place) (x : V) (stage : Stage) (node other : Node V) → content node (part_touched P here stage) ≡ content other (part_touched P here stage)
    → content (node_after P here x stage node) (part_touched P here stage) ≡ content (node_after P here x stage other) (part_touched P here stage)
leaves_alike P here x Write node other e = ap (λ r. Value r) (register_mine node here.team x ∙ sym (register_mine other here.team x))
leaves_alike P here x Apply node other e =
    let same : node.state.0 ≡ other.state.0 = cc in
    ap (λ s. State (P.act here.role s).1) same
leaves_alike P here x (Read response) node other e = e
leaves_alike P here x (Take response state) node other e = e

-- a part of the node that is written, or of a node that does not exist
written_part : {V : Type 0} (nodes : List (Node V)) (v : ℕ) (d node : Node V) (part : SharedPart) → content node part ≡ content (slice_index_or nodes v d) part
    → content (slice_index_or (slice_set nodes v node) v d) part ≡ content (slice_index_or nodes v d) part
written_part [] v d node part e = refl
written_part (n ∷ nodes) zero d node part e = e
written_part (n ∷ nodes) (suc v) d node part e = written_part nodes v d node part e

module _ {V : Type 0} (P : ProtocolOfRounds) (p : ℕ) where
  -- an active process is one of the processes
  active_within : (locals : List (Local V)) (q i : ℕ) (x : V) (stage : Stage) → slice_index_or locals q NotBegun ≡ Active i x stage → q < length locals
  active_within [] q i x stage e = absurd cc
  active_within (l ∷ locals) zero i x stage e = omega arith
  active_within (l ∷ locals) (suc q) i x stage e = let k = active_within locals q i x stage e in omega arith

  step_is : (w : World V) (i : ℕ) (x : V) (stage : Stage) → local_at w p ≡ Active i x stage → after_step P p w ≡ after_action P p w i x stage (place_of P p i)
  step_is w i x stage e = ap (after_step_from P p w) e

  first_is : (w : World V) (here : Place) (stage : Stage)
      → (first_after w.first here stage ≡ w.first) ⊎ ((w.first ≡ None) × (first_after w.first here stage ≡ Some here.team) × (here.node ≡ 0) × (stage ≡ Apply))
  first_is w here Write = inl refl
  first_is w here Apply = go w.first here.node refl refl
    where
      go : (first : Option Team) (node : ℕ) → w.first ≡ first → here.node ≡ node → (first_recorded w.first here.node here.team ≡ w.first)
          ⊎ ((w.first ≡ None) × (first_recorded w.first here.node here.team ≡ Some here.team) × (here.node ≡ 0) × (Apply ≡ Apply))
      go None zero e f = inr (e, rw (e, f) refl, f, refl)
      go None (suc node) e f = inl (rw (e, f) refl)
      go (Some team) node e f = inl (rw e refl)
  first_is w here (Read response) = inl refl
  first_is w here (Take response state) = inl refl

  acts_once : (w : World V) (i : ℕ) (x : V) (stage : Stage) → ActsOnce P p i x stage w (after_action P p w i x stage (place_of P p i))
  acts_once w i x stage =
      let here : Place = place_of P p i in
      record {
        other_parts = λ part ne. written_part w.nodes here.node (fresh_node P.start) (node_after P here x stage (node_at P w here.node)) part (leaves P here x stage (node_at P w here.node) part ne);
        other_nodes = λ v ne. get_or-set_other w.nodes here.node v (node_after P here x stage (node_at P w here.node)) (fresh_node P.start) ne;
        other_processes = λ q ne. get_or-set_other w.locals p q (local_after P (length (P.path p)) i here x stage (node_at P w here.node)) NotBegun ne;
        inputs = refl;
        recorded = first_is w here stage;
      }

  next_is : (w : World V) (i : ℕ) (x : V) (stage : Stage) → local_at w p ≡ Active i x stage
      → local_at (after_step P p w) p ≡ local_after P (length (P.path p)) i (place_of P p i) x stage (node_at P w (place_of P p i).node)
  next_is w i x stage e =
      ap (λ (u : World V). local_at u p) (step_is w i x stage e)
      ∙ get_or-set_same w.locals p (local_after P (length (P.path p)) i (place_of P p i) x stage (node_at P w (place_of P p i).node)) NotBegun (active_within w.locals p i x stage e)

  -- the node of the process's place after its step
  node_is : (w : World V) (i : ℕ) (x : V) (stage : Stage) → local_at w p ≡ Active i x stage → (place_of P p i).node < length w.nodes
      → node_at P (after_step P p w) (place_of P p i).node ≡ node_after P (place_of P p i) x stage (node_at P w (place_of P p i).node)
  node_is w i x stage e there =
      ap (λ (u : World V). node_at P u (place_of P p i).node) (step_is w i x stage e)
      ∙ get_or-set_same w.nodes (place_of P p i).node (node_after P (place_of P p i) x stage (node_at P w (place_of P p i).node)) (fresh_node P.start) there

  shared_alike : (w u : World V) (i : ℕ) (x : V) (stage : Stage) → HasPlace P p i w u → LooksAlike P p i x stage w u
      → content (node_at P (after_step P p w) (place_of P p i).node) (part_touched P (place_of P p i) stage) ≡ content (node_at P (after_step P p u) (place_of P p i).node)
      (part_touched P (place_of P p i) stage)
  shared_alike w u i x stage place alike =
      let here : Place = place_of P p i in
      ap (λ (n : Node V). content n (part_touched P here stage)) (node_is w i x stage alike.here place.here)
      ∙ leaves_alike P here x stage (node_at P w here.node) (node_at P u here.node) alike.shared
      ∙ sym (ap (λ (n : Node V). content n (part_touched P here stage)) (node_is u i x stage alike.there place.there))

  pub atomic : IsAtomic V P p
  atomic = record {
    one_action = λ w i x stage e. (let T : World V → Type 0 = ActsOnce P p i x stage w in subst T (sym (step_is w i x stage e)) (acts_once w i x stage));
    local = λ w u i x stage alike.
        next_is w i x stage alike.here
        ∙ reads_alike P (length (P.path p)) i (place_of P p i) x stage (node_at P w (place_of P p i).node) (node_at P u (place_of P p i).node) alike.shared
        ∙ sym (next_is u i x stage alike.there);
    shared = λ w u i x stage place alike. shared_alike w u i x stage place alike;
  }
