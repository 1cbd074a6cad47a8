-- A step changes one node and one process. Properties of the rest stay.
use Rattle.std.proofs.Common.{ℕ, ◌≡◌, ◌≢◌, ◌⊎◌, inl, inr, slice_index_or, ◌+◌, ◌*◌, ◌≤◌, List, [], ◌∷◌, ◌++◌, length, slice_get, Option, Some, None, sym, ap, ◌∙◌, arith, append-nil}
use Rattle.std.specs.List.{AllPairs}
use Rattle.std.proofs.lemmas.Bool.{cases_eq}
use Rattle.cn_agree.specs.declared.node.Node.{Node}
use Rattle.cn_choice.specs.declared.team.Team.{Team}
use Rattle.cn_agree.specs.declared.local.Local.{Local}
use Rattle.cn_proto.specs.Order.{after}
use Rattle.cn_proto.specs.Protocol.{ProtocolOfRounds}
use Rattle.cn_agree.specs.World.{World, node_at, local_at, register}
use Rattle.cn_agree.proofs.Invariant.{first_team, LocalHolds, Grows, Holds, IsBrought, IsDone}
use Rattle.cn_agree.specs.Rounds.{steps_taken}
use Rattle.cn_agree.proofs.Growing.{brings_grows, local_grows}

-- from w to w' process p gets this local state, and node v becomes this node; all else stays
pub record Changes {V : Type 0} (P : ProtocolOfRounds) (w w' : World V) (p : ℕ) (mine : Local V) (v : ℕ) (node : Node V) : Type 0 where
  pub nodes_are : length w'.nodes ≡ length w.nodes
  pub locals_are : length w'.locals ≡ length w.locals
  pub local_mine : local_at w' p ≡ mine
  pub local_other : (q : ℕ) → q ≢ p → local_at w' q ≡ local_at w q
  pub node_this : node_at P w' v ≡ node
  pub node_other : (u : ℕ) → u ≢ v → node_at P w' u ≡ node_at P w u
  pub inputs_same : w'.inputs ≡ w.inputs

-- the orders change only at node v, by these roles
pub record Extends (order order' : ℕ → List ℕ) (v : ℕ) (more : List ℕ) : Type 0 where
  pub this : order' v ≡ order v ++ more
  pub other : (u : ℕ) → u ≢ v → order' u ≡ order u

module _ {V : Type 0} (P : ProtocolOfRounds) (n nodes : ℕ) (team : ℕ → Team) (w w' : World V) (order order' : ℕ → List ℕ)
    (holds : Holds P n nodes team w order) (p : ℕ) (mine : Local V) (v : ℕ) (node : Node V) (more : List ℕ)
    (changes : Changes P w w' p mine v node) (extends : Extends order order' v more)
    (registers : (side : Team) (y : V) → register (node_at P w v) side ≡ Some y → register node side ≡ Some y) where
  pub changes_grow : Grows P w order w' order'
  changes_grow = record {
    registers = λ u side y h. elim (cases_eq u v) [
      | inl e ↦ rw (e, changes.node_this) (registers side y (rw e at h))
      | inr ne ↦ rw (changes.node_other u ne) h
    ];
    inputs = λ q y h. rw changes.inputs_same h;
    orders = λ u. elim (cases_eq u v) [
      | inl e ↦ (more, rw e extends.this)
      | inr ne ↦ ([], extends.other u ne ∙ sym (append-nil (order u)))
    ];
  }

  pub done_grows : (u role : ℕ) → steps_taken P p (local_at w p) ≤ steps_taken P p mine → IsDone P n w u role → IsDone P n w' u role
  done_grows u role le d = record {
    by = d.by;
    at = d.at;
    place = d.place;
    node = d.node;
    role_is = d.role_is;
    applied = elim (cases_eq d.by p) [
      | inl e ↦ applied_mine d.by d.at e d.applied
      | inr ne ↦ rw (changes.local_other d.by ne) d.applied
    ];
  }
    where
      applied_mine : (q at : ℕ) → q ≡ p → 4 * at + 2 ≤ steps_taken P q (local_at w q) → 4 * at + 2 ≤ steps_taken P q (local_at w' q)
      applied_mine q at e h = rw (e, changes.local_mine) (let h' : 4 * at + 2 ≤ steps_taken P p (local_at w p) = rw e at h in omega arith)

  pub keeps_on : node.state.0 ≡ after P.act P.start (order v ++ more)
      → AllPairs (λ (x : ℕ) y. x ≢ y) (order v ++ more)
      → ((k role : ℕ) → slice_get (order v ++ more) k ≡ Some role → (slice_get (order v) k ≡ Some role) ⊎ IsDone P n w' v role)
      → ((head : ℕ) (rest : List ℕ) → order v ++ more ≡ head ∷ rest → (y : V) × (register node (team head) ≡ Some y))
      → ((side : Team) (y : V) → register node side ≡ Some y → IsBrought P n team w' order' v side y)
      → LocalHolds P n team w' order' p mine
      → w'.first ≡ first_team team (order' 0)
      → steps_taken P p (local_at w p) ≤ steps_taken P p mine
      → Holds P n nodes team w' order'
  keeps_on state distinct done written brought mine_holds first_is le = record {
    nodes_are = changes.nodes_are ∙ holds.nodes_are;
    locals_are = changes.locals_are ∙ holds.locals_are;
    inputs_are = ap length changes.inputs_same ∙ holds.inputs_are;
    first_is = first_is;
    moved = λ u. elim (cases_eq u v) [
      | inl e ↦ rw (e, changes.node_this, extends.this) state
      | inr ne ↦ rw (changes.node_other u ne, extends.other u ne) (holds.moved u)
    ];
    distinct = λ u. elim (cases_eq u v) [
      | inl e ↦ rw (e, extends.this) distinct
      | inr ne ↦ rw (extends.other u ne) (holds.distinct u)
    ];
    done = λ u k role h. elim (cases_eq u v) [
      | inl e ↦ rw e (⊎_elim_done k role (done k role (rw (e, extends.this) at h)))
      | inr ne ↦ done_grows u role le (holds.done u k role (rw (extends.other u ne) at h))
    ];
    written = λ u head rest h. elim (cases_eq u v) [
      | inl e ↦ rw (e, changes.node_this) (written head rest (rw (e, extends.this) at h))
      | inr ne ↦ rw (changes.node_other u ne) (holds.written u head rest (rw (extends.other u ne) at h))
    ];
    brought = λ u side y h. elim (cases_eq u v) [
      | inl e ↦ rw e (brought side y (rw (e, changes.node_this) at h))
      | inr ne ↦ brought_grows u side y (holds.brought u side y (rw (changes.node_other u ne) at h))
    ];
    local_holds = λ q lt. elim (cases_eq q p) [
      | inl e ↦ rw (e, changes.local_mine) mine_holds
      | inr ne ↦ rw (changes.local_other q ne)
          (local_grows P n team w order w' order' changes_grow q (local_at w q) (λ e. ap (λ (is : List (Option V)). slice_index_or is q None) changes.inputs_same) (holds.local_holds q lt))
    ];
  }
    where
      ⊎_elim_done : (k role : ℕ) → (slice_get (order v) k ≡ Some role) ⊎ IsDone P n w' v role → IsDone P n w' v role
      ⊎_elim_done k role (inl h) = done_grows v role le (holds.done v k role h)
      ⊎_elim_done k role (inr d) = d

      brought_grows : (u : ℕ) (side : Team) (y : V) → IsBrought P n team w order u side y → IsBrought P n team w' order' u side y
      brought_grows u side y b = record {
        by = b.by;
        at = b.at;
        place = b.place;
        node = b.node;
        team_is = b.team_is;
        brings = brings_grows P n team w order w' order' changes_grow b.by b.at y b.brings;
      }
