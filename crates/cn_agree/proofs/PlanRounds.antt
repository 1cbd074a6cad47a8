-- Rounds of a plan.
use Rattle.std.proofs.Common.{ℕ, ◌≡◌, ◌≢◌, ◌⊎◌, inl, inr, ◌*◌, ◌<◌, ◌≤◌, ◌↔◌, List, [], ◌∷◌, ◌++◌, length, slice_index_or, slice_set, IfSome, IsSome, Option, Some, None, refl, sym, ap, ◌∙◌, subst, arith, get_or-set_same}
use Rattle.cn_choice.specs.declared.team.Team.{Team}
use Rattle.cn_proto.specs.Plan.{Plan, protocol_of, processes_of, nodes_of}
use Rattle.cn_proto.specs.Tournament.{team_of}
use Rattle.cn_proto.specs.Protocol.{ProtocolOfRounds, place_of, nowhere}
use Rattle.cn_proto.specs.declared.place.Place.{Place}
use Rattle.cn_agree.specs.declared.action.Turn.{Turn}
use Rattle.cn_agree.specs.declared.node.Node.{Node}
use Rattle.cn_agree.specs.declared.local.Stage.{Stage}
use Rattle.cn_agree.specs.declared.local.Stage.TheVariants.{Write}
use Rattle.cn_agree.specs.declared.local.Local.{Local}
use Rattle.cn_agree.specs.declared.local.Local.TheVariants.{NotBegun, Active, Decided}
use Rattle.std.proofs.lemmas.List.{get_or_default}
use Rattle.cn_agree.specs.World.{World, local_at, input_at, node_at, register, fresh_node}
use Rattle.cn_agree.specs.Steps.{after_begin, node_after, local_after, first_after, after_action, after_step_from, after_step}
use Rattle.cn_agree.specs.Reached.{Begins, Steps, HasBegun}
use Rattle.cn_agree.specs.Consensus.{IsParticipant, occurrences}
use Rattle.cn_agree.specs.Rounds.{decision_of, decision_at, value_of_team, fixed_value, IsAppliedAtRoot, IsRoundOf, RunsBy, IsRound, KeepsConsensus}
use Rattle.cn_proto.specs.Order.{after}
use Rattle.cn_agree.proofs.Reaching.{nodes_are, locals_are, inputs_are, reached_kept, state_below}
use Rattle.cn_agree.proofs.Fixing.{keeps_consensus, fixed_stays}

-- the turn of process p, which is at this place of its path with this value; the place, its node, its role and the state of its object exist
pub record IsTurn {V : Type 0} (plan : Plan) (w : World V) (p : ℕ) (x : V) (turn : Turn) : Type 0 where
  pub local : local_at w p ≡ Active turn.place x turn.stage
  pub process : p < length w.locals
  pub here : turn.here ≡ place_of (protocol_of plan) p turn.place
  pub places : turn.places ≡ length ((protocol_of plan).path p)
  pub place : turn.place < turn.places
  pub node : turn.here.node < length w.nodes
  pub role : turn.here.role < processes_of plan
  pub state : (node_at (protocol_of plan) w turn.here.node).state.0 < length plan.table.states

module _ {V : Type 0} (plan : Plan) (schedule : List ℕ) (w : World V) (r : IsRoundOf plan schedule w) where
  abbrev team : ℕ → Team
  team = team_of (length plan.choice.a)

  pub processes_are : length w.locals ≡ processes_of plan
  processes_are = locals_are (protocol_of plan) (processes_of plan) (nodes_of plan) team r.sound r.reached

  pub process_within : (p : ℕ) → p < processes_of plan → p < length w.locals
  process_within p lt = rw processes_are lt

  pub inputs_same : length w.inputs ≡ length w.locals
  inputs_same = inputs_are (protocol_of plan) (processes_of plan) (nodes_of plan) team r.sound r.reached ∙ sym processes_are

  pub some_node : 0 < length w.nodes
  some_node =
      let many = nodes_are (protocol_of plan) (processes_of plan) (nodes_of plan) team r.sound r.reached in
      let two = r.is_plan.fits.some in
      omega arith

  pub keeps : KeepsConsensus (protocol_of plan) (processes_of plan) schedule w
  keeps = keeps_consensus (protocol_of plan) (processes_of plan) (nodes_of plan) team r.sound r.reached

  -- the turn of an active process
  pub turn_at : (p : ℕ) → p < processes_of plan → ((order : List ℕ) → after (protocol_of plan).act (protocol_of plan).start order < length plan.table.states)
      → (i : ℕ) (x : V) (stage : Stage) → local_at w p ≡ Active i x stage → (path : List Place) → path ≡ (protocol_of plan).path p
      → IsTurn plan w p x (record { here = slice_index_or path i nowhere; place = i; places = length path; stage = stage })
  turn_at p lt reachable i x stage e path g =
      let k = reached_kept (protocol_of plan) (processes_of plan) (nodes_of plan) team r.sound r.reached in
      let h = rw e at (k.1.local_holds p lt) in
      record {
        local = e;
        process = process_within p lt;
        here = ap (λ l. slice_index_or l i nowhere) g;
        places = ap length g;
        place = rw g h.0.1;
        node = rw (g, k.1.nodes_are) (r.sound.nodes_below p i h.0);
        role = rw g (r.sound.roles_below p i h.0);
        state = state_below (protocol_of plan) (processes_of plan) (nodes_of plan) team r.sound r.reached _ reachable (slice_index_or path i nowhere).node;
      }

  pub round_begins : (p : ℕ) (x : V) → p < length w.locals → local_at w p ≡ NotBegun → IsRoundOf plan schedule (after_begin p x w)
  round_begins p x lt e = record { is_plan = r.is_plan; sound = r.sound; reached = Begins p x (rw (← processes_are) lt) e r.reached }

  pub round_steps : (p : ℕ) → p < processes_of plan → HasBegun w p → IsRoundOf plan (schedule ++ p ∷ []) (after_step (protocol_of plan) p w)
  round_steps p lt b = record { is_plan = r.is_plan; sound = r.sound; reached = Steps p lt b r.reached }

-- the same for any round
pub inputs_many : {V : Type 0} (w : World V) → IsRound w → length w.inputs ≡ length w.locals
inputs_many w r = inputs_same r.0 r.1.0 w r.1.1

pub has_root : {V : Type 0} (w : World V) → IsRound w → 0 < length w.nodes
has_root w r = some_node r.0 r.1.0 w r.1.1

-- the fields after a beginning
begins_is : {V : Type 0} (w : World V) (p i j : ℕ) (x : V) → i ≡ p → j ≡ p → record w { locals = slice_set w.locals i (Active 0 x Write); inputs = slice_set w.inputs j (Some x) } ≡ after_begin p x w
begins_is w p i j x e f = rw (e, f) refl

pub begins_round : {V : Type 0} {w self : World V} {p i j : ℕ} (x : V) → w ≡ self → i ≡ p → j ≡ p → p < length self.locals → local_at self p ≡ NotBegun → IsRound w
    → IsRound (record w { locals = slice_set w.locals i (Active 0 x Write); inputs = slice_set w.inputs j (Some x) })
begins_round {V = V} {w = w} {p = p} {i = i} {j = j} x is e f lt waits r =
    let T : World V → Type 0 = IsRound in
    subst T (sym (begins_is w p i j x e f)) (r.0, (r.1.0, round_begins r.0 r.1.0 w r.1.1 p x (rw is lt) (rw is waits)))

pub begins_of : {V : Type 0} {w self : World V} {p i j : ℕ} (x : V) → w ≡ self → i ≡ p → j ≡ p → p < length self.locals → local_at self p ≡ NotBegun
    → (plan : Plan) (schedule : List ℕ) → IsRoundOf plan schedule self → IsRoundOf plan schedule (record w { locals = slice_set w.locals i (Active 0 x Write); inputs = slice_set w.inputs j (Some x) })
begins_of {V = V} {w = w} {self = self} {p = p} {i = i} {j = j} x is e f lt waits plan schedule r =
    let T : World V → Type 0 = IsRoundOf plan schedule in
    subst T (sym (begins_is w p i j x e f ∙ ap (after_begin p x) is)) (round_begins plan schedule self r p x lt waits)

-- a local state or a node that was read
pub local_read : {V : Type 0} {w self : World V} {p q : ℕ} {found : Local V} → w ≡ self → q ≡ p → p < length self.locals → found ≡ slice_index_or w.locals q found → found ≡ local_at self p
local_read {V = V} {w = w} {self = self} {p = p} {found = found} is e within read =
    read ∙ ap (λ k. slice_index_or w.locals k found) e ∙ ap (λ (u : World V). slice_index_or u.locals p found) is ∙ sym (get_or_default self.locals p NotBegun found within)

pub node_read : {V : Type 0} (P : ProtocolOfRounds) {w self : World V} {v u : ℕ} {node : Node V} → w ≡ self → u ≡ v → v < length self.nodes → node ≡ slice_index_or w.nodes u node
    → node ≡ node_at P self v
node_read {V = V} P {w = w} {self = self} {v = v} {node = node} is e there read =
    read ∙ ap (λ k. slice_index_or w.nodes k node) e ∙ ap (λ (z : World V). slice_index_or z.nodes v node) is ∙ sym (get_or_default self.nodes v (fresh_node P.start) node there)

pub node_within : {V : Type 0} {w self : World V} {v u : ℕ} → w ≡ self → u ≡ v → v < length self.nodes → u < length w.nodes
node_within is e there = rw (is, e) there

-- the turn of a process whose local state was read
pub turn_read : {V : Type 0} (plan : Plan) {self : World V} (runs : RunsBy plan self) {p : ℕ} → p < processes_of plan
    → ((order : List ℕ) → after (protocol_of plan).act (protocol_of plan).start order < length plan.table.states)
    → {w : World V} {q i : ℕ} {x : V} {stage : Stage} {found : Local V} {path : List Place} → w ≡ self → q ≡ p → found ≡ slice_index_or w.locals q found → found ≡ Active i x stage
    → path ≡ (protocol_of plan).path p
    → IsTurn plan self p x (record { here = slice_index_or path i nowhere; place = i; places = length path; stage = stage })
turn_read plan {self = self} runs {p = p} lt reachable {i = i} {x = x} {stage = stage} {path = path} is e read f g =
    turn_at plan runs.0 self runs.1 p lt reachable i x stage (sym (local_read is e (process_within plan runs.0 self runs.1 p lt) read) ∙ f) path g

-- the fields after a step
pub steps_is : {V : Type 0} (plan : Plan) {w self : World V} {p : ℕ} {turn : Turn} {x : V}
    (t : IsTurn plan self p x turn) {q v : ℕ} {node node' : Node V} {next : Local V} {first : Option Team} → w ≡ self → q ≡ p → v ≡ turn.here.node
    → node ≡ slice_index_or w.nodes v node → node' ≡ node_after (protocol_of plan) turn.here x turn.stage node
    → next ≡ local_after (protocol_of plan) turn.places turn.place turn.here x turn.stage node → first ≡ first_after w.first turn.here turn.stage
    → record w { nodes = slice_set w.nodes v node'; locals = slice_set w.locals q next; first = first } ≡ after_step (protocol_of plan) p self
steps_is {V = V} plan {w = w} {self = self} {p = p} {turn = turn} {x = x} t {q = q} {v = v} {node' = node'} {next = next} {first = first} is e g n n' l o =
    let acted : record w { nodes = slice_set w.nodes v node'; locals = slice_set w.locals q next; first = first } ≡ after_action (protocol_of plan) p self turn.place x turn.stage
    (place_of (protocol_of plan) p turn.place) =
    rw (o, n', l, node_read (protocol_of plan) is g t.node n, e, g, is, t.places, t.here) refl in
    acted ∙ sym (ap (after_step_from (protocol_of plan) p self) t.local)

pub decision_fixed : {V : Type 0} {w self : World V} (p : ℕ) → w ≡ self → IsRound w → {found : Option V} → found ≡ decision_at self p → IfSome found (λ x. fixed_value self ≡ Some x)
decision_fixed {V = V} {self = self} p is round {found = found} e = go found e
  where
    round_of : IsRound self
    round_of = let T : World V → Type 0 = IsRound in subst T is round

    go : (found : Option V) → found ≡ decision_at self p → IfSome found (λ x. fixed_value self ≡ Some x)
    go None e = tt
    go (Some x) e = (keeps round_of.0 round_of.1.0 self round_of.1.1).decisions p x (sym e)

pub decision_in_time : {V : Type 0} (self : World V) (p : ℕ) → p < length self.locals → (found : Option V) → found ≡ decision_at self p
    → (plan : Plan) (schedule : List ℕ) → IsRoundOf plan schedule self → IsSome found ↔ (4 * length ((protocol_of plan).path p) ≤ occurrences schedule p)
decision_in_time self p within found e plan schedule r =
    rw e ((keeps plan schedule self r).in_time p (rw (← processes_are plan schedule self r) within))

pub fixed_none : {V : Type 0} {w self : World V} → w ≡ self → w.first ≡ None → None ≡ fixed_value self
fixed_none {w = w} is none = sym (ap (value_of_team w) none) ∙ ap fixed_value is

pub fixed_some : {V : Type 0} {w self : World V} {team : Team} {root : Node V} → w ≡ self → 0 < length w.nodes → w.first ≡ Some team → root ≡ slice_index_or w.nodes 0 root
    → register root team ≡ fixed_value self
fixed_some {V = V} {w = w} {team = team} {root = root} is some first read =
    ap (λ (node : Node V). register node team) (read ∙ sym (get_or_default w.nodes 0 (fresh_node 0) root some)) ∙ sym (ap (value_of_team w) first) ∙ ap fixed_value is

pub fixed_valid_of : {V : Type 0} (self : World V) (found : Option V) → found ≡ fixed_value self → (plan : Plan) (schedule : List ℕ) → IsRoundOf plan schedule self
    → IfSome found (λ x. (q : ℕ) × IsParticipant schedule q × (input_at self q ≡ Some x))
fixed_valid_of self None e plan schedule r = tt
fixed_valid_of self (Some x) e plan schedule r = let v = (keeps plan schedule self r).valid x (sym e) in (v.0, v.2, v.3)

pub fixed_since : {V : Type 0} (self : World V) (found : Option V) → found ≡ fixed_value self → (plan : Plan) (schedule : List ℕ) → IsRoundOf plan schedule self
    → IsSome found ↔ IsAppliedAtRoot (protocol_of plan) (processes_of plan) self
fixed_since self found e plan schedule r = rw e (keeps plan schedule self r).since

-- the decision in the local state written
pub next_decides : {V : Type 0} {w self : World V} {p q : ℕ} (next : Local V) → w ≡ self → q ≡ p → p < length self.locals
    → decision_of next ≡ decision_of (slice_index_or (slice_set w.locals q next) p NotBegun)
next_decides {self = self} {p = p} next is e within = rw (is, e, get_or-set_same self.locals p next NotBegun within) refl

pub fixed_goes_on : {V : Type 0} (plan : Plan) (self : World V) → RunsBy plan self → (p : ℕ) → p < processes_of plan → (x : V) → fixed_value self ≡ Some x
    → fixed_value (after_step (protocol_of plan) p self) ≡ Some x
fixed_goes_on plan self runs p lt x e =
    let r = runs.1 in
    fixed_stays (protocol_of plan) (processes_of plan) (nodes_of plan) (team_of (length plan.choice.a)) r.sound r.reached p lt x e

-- a process that has begun and not decided is active
pub under_way : {V : Type 0} {local found : Local V} → found ≡ local → local ≢ NotBegun → decision_of local ≡ None → (found ≡ NotBegun) ⊎ ((x : V) × (found ≡ Decided x)) → ⊥
under_way here begun undecided (inl waits) = begun (sym here ∙ waits)
under_way {V = V} here begun undecided (inr done) = no_value done.0 (sym (ap decision_of (sym here ∙ done.1)) ∙ undecided)
  where
    no_value : (x : V) → Some x ≡ None → ⊥
    no_value x h = cc
