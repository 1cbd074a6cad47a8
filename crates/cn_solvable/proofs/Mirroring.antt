-- The steps of a round, and those of its protocol in registers and readable objects.
use Rattle.std.proofs.Common.{◌≡◌, ◌≢◌, ℕ, ◌+◌, ◌*◌, ◌<◌, inl, inr, List, [], ◌∷◌, length, refl}
use Rattle.std.proofs.Common.{sym, ap, ◌∙◌, subst, arith, Bool, Option, Some, slice_index_or}
use Rattle.std.proofs.Common.{slice_set, length-set, get_or-set_same, get_or-set_other}
use Rattle.std.proofs.lemmas.Bool.{cases_eq}
use Rattle.cn_table.specs.TypeTable.{TypeTable, transition}
use Rattle.cn_table.specs.declared.elements.State.{State}
use Rattle.cn_choice.specs.declared.team.Team.{Team}
use Rattle.cn_choice.specs.declared.team.Team.TheVariants.{A, B}
use Rattle.cn_proto.specs.Protocol.{ProtocolOfRounds, place_of}
use Rattle.cn_agree.specs.Rounds.{decision_of}
use Rattle.cn_agree.specs.Steps.{after_schedule, after_step, after_step_from, local_after}
use Rattle.cn_agree.specs.Steps.{node_after, onward_if_found}
use Rattle.cn_agree.specs.World.{World, fresh_node, local_at, node_at, register, with_register}
use Rattle.cn_agree.specs.declared.local.Local.{Local}
use Rattle.cn_agree.specs.declared.local.Local.TheVariants.{NotBegun, Active, Decided}
use Rattle.cn_agree.specs.declared.local.Stage.{Stage}
use Rattle.cn_agree.specs.declared.local.Stage.TheVariants.{Write, Apply, Read, Take}
use Rattle.cn_agree.specs.declared.node.Node.{Node}
use Rattle.cn_consensus.specs.Configuration.{Configuration, after, decided_by, decision, perform}
use Rattle.cn_consensus.specs.Configuration.{put, step}
use Rattle.cn_consensus.specs.Consensus.{IsSchedule}
use Rattle.cn_consensus.specs.Types.{all_of}
use Rattle.cn_consensus.proofs.Alike.{put-alike, put-other, put-same}
use Rattle.cn_solvable.specs.RoundProtocol.{Mirrors, local_action, register_of, round_protocol}
use Rattle.cn_solvable.specs.RoundProtocol.{stage_action}

-- ---- functions and registers

at_same : {X : Type 0} (f : ℕ → X) (i : ℕ) (x : X) (j : ℕ) → j ≡ i → put f i x j ≡ x
at_same f i x j e = ap (put f i x) e ∙ put-same f i x

-- a value that is there already
put-there : {X : Type 0} (f : ℕ → X) (i : ℕ) (x : X) → f i ≡ x → (j : ℕ) → put f i x j ≡ f j
put-there f i x e j = elim (cases_eq j i) [
  | inl s ↦ at_same f i x j s
      ∙ (sym e ∙ ap f (sym s))
  | inr n ↦ put-other f i x j n
]

registers_apart : (u v : ℕ) (s r : Team) → u ≢ v → register_of u s ≢ register_of v r
registers_apart u v A A n e = n (omega arith)
registers_apart u v A B n e = absurd (omega arith)
registers_apart u v B A n e = absurd (omega arith)
registers_apart u v B B n e = n (omega arith)

state_kept : {V : Type 0} (node : Node V) (team : Team) (x : V)
    → (with_register node team x).state ≡ node.state
state_kept node A x = refl
state_kept node B x = refl

register_written : (f : ℕ → Option Bool) (v : ℕ) (node : Node Bool) (team : Team) (x : Bool)
    → ((side : Team) → f (register_of v side) ≡ register node side)
    → (side : Team) → put f (register_of v team) (Some x) (register_of v side) ≡ register
    (with_register node team x) side
register_written f v node A x h A = put-same f (2 * v) (Some x)
register_written f v node A x h B = put-other f (2 * v) (Some x) (2 * v + 1) (λ e.
    absurd (omega arith)) ∙ h B
register_written f v node B x h A = put-other f (2 * v + 1) (Some x) (2 * v) (λ e.
    absurd (omega arith)) ∙ h A
register_written f v node B x h B = put-same f (2 * v + 1) (Some x)

register_kept : {V : Type 0} (node : Node V) (q : State) (side : Team)
    → register (record node { state = q }) side ≡ register node side
register_kept node q A = refl
register_kept node q B = refl

-- ---- rounds and configurations

-- the configuration c' is c with this local state of process p, and with the object and the
-- registers of this node in place of v
record Follows (p v : ℕ) (mine : Local Bool) (node : Node Bool)
    (c c' : Configuration (Local Bool) (Option Bool)) : Type 0 where
  pub local : (q : ℕ) → c'.locals q ≡ put c.locals p mine q
  pub state : (u : ℕ) → c'.objects u ≡ put c.objects v node.state.0 u
  pub held : (side : Team) → c'.registers (register_of v side) ≡ register node side
  pub others : (u : ℕ) (side : Team) → u ≢ v → c'.registers (register_of u side) ≡ c.registers
      (register_of u side)

module _ (t : TypeTable) (R : ProtocolOfRounds) (op : ℕ → ℕ) (n nodes : ℕ) (acts : (role q : ℕ)
    → R.act role q ≡ transition t (op role) q)
    (inside : (p i : ℕ) → p < n → (place_of R p i).node < nodes) where
  both_change : (p v : ℕ) (mine : Local Bool) (node : Node Bool) (w : World Bool)
      (c c' : Configuration (Local Bool) (Option Bool)) (first : Option Team)
      → p < n → v < nodes → Mirrors R n nodes w c → Follows p v mine node c c'
      → Mirrors R n nodes (record w {
        nodes = slice_set w.nodes v node;
        locals =
            slice_set w.locals p mine;
        first = first;
      }) c'
  both_change p v mine node w c c' first lp lv m f =
      let within : p < length w.locals = subst (λ (k : ℕ). p < k) (sym m.processes_are) lp in
      let there : v < length w.nodes = subst (λ (k : ℕ). v < k) (sym m.nodes_are) lv in
      let node_now : slice_index_or (slice_set w.nodes v node) v (fresh_node R.start) ≡ node =
      get_or-set_same w.nodes v node (fresh_node R.start) there in
      record {
        processes_are = length-set w.locals p mine ∙ m.processes_are;
        nodes_are = length-set w.nodes v node ∙ m.nodes_are;
        local = λ q lq. elim (cases_eq q p) [
          | inl e ↦ f.local q ∙ (at_same c.locals p mine q e
              ∙ sym (ap (λ (k : ℕ). slice_index_or (slice_set w.locals p mine) k NotBegun) e
              ∙ get_or-set_same w.locals p mine NotBegun within))
          | inr d ↦ f.local q ∙ (put-other c.locals p mine q d
              ∙ (m.local q lq ∙ sym (get_or-set_other w.locals p q mine NotBegun d)))
        ];
        state = λ u lu. elim (cases_eq u v) [
          | inl e ↦ f.state u ∙ (at_same c.objects v node.state.0 u e
              ∙ sym (ap (λ (k : ℕ). (slice_index_or (slice_set w.nodes v node) k
              (fresh_node R.start)).state.0) e ∙ ap (λ (z : Node Bool). z.state.0) node_now))
          | inr d ↦ f.state u ∙ (put-other c.objects v node.state.0 u d
              ∙ (m.state u lu ∙ sym (ap (λ (z : Node Bool).
              z.state.0) (get_or-set_other w.nodes v u node (fresh_node R.start) d))))
        ];
        held = λ u lu side. elim (cases_eq u v) [
          | inl e ↦ ap (λ (k : ℕ). c'.registers (register_of k side)) e ∙ (f.held side
              ∙ sym (ap (λ (k : ℕ). register (slice_index_or (slice_set w.nodes v node) k
              (fresh_node R.start)) side) e ∙ ap (λ (z : Node Bool). register z side) node_now))
          | inr d ↦ f.others u side d ∙ (m.held u lu side
              ∙ sym (ap (λ (z : Node Bool). register z side)
              (get_or-set_other w.nodes v u node (fresh_node R.start) d)))
        ];
      }

  -- an action of an active process
  follows : (p i : ℕ) (x : Bool) (stage : Stage) (w : World Bool)
      (c : Configuration (Local Bool) (Option Bool)) → p < n → Mirrors R n nodes w c
      → Follows p (place_of R p i).node (local_after R (length (R.path p)) i (place_of R p i) x
      stage (node_at R w (place_of R p i).node))
      (node_after R (place_of R p i) x stage (node_at R w (place_of R p i).node)) c
      (perform (all_of t) c p (stage_action R op (length (R.path p)) i x stage (place_of R p i)))
  follows p i x Write w c l m =
      let here = place_of R p i in
      let node = node_at R w here.node in
      let lv = inside p i l in
      record {
        local = λ q. refl;
        state = λ u.
            sym (put-there c.objects here.node (with_register node here.team x).state.0
            (m.state here.node lv ∙ ap (λ (z : State).
            z.0) (sym (state_kept node here.team x))) u);
        held = register_written c.registers here.node node here.team x (m.held here.node lv);
        others = λ u side d. put-other c.registers (register_of here.node here.team) (Some x)
            (register_of u side) (registers_apart u here.node side here.team d);
      }
  follows p i x Apply w c l m =
      let here = place_of R p i in
      let node = node_at R w here.node in
      let lv = inside p i l in
      let same : transition t (op here.role) (c.objects here.node) ≡ R.act here.role node.state.0 =
      ap (transition t (op here.role)) (m.state here.node lv) ∙ sym (acts here.role node.state.0) in
      record {
        local = put-alike c.locals c.locals p _ _ (λ q.
            refl) (ap (λ (z : ℕ × ℕ). Active i x (Read (record { 0 = z.0 }))) same);
        state = put-alike c.objects c.objects here.node _ _ (λ q.
            refl) (ap (λ (z : ℕ × ℕ). z.1) same);
        held = λ side. m.held here.node lv side
            ∙ sym (register_kept node (record { 0 = (R.act here.role node.state.0).1 }) side);
        others = λ u side d. refl;
      }
  follows p i x (Read response) w c l m =
      let here = place_of R p i in
      let node = node_at R w here.node in
      let lv = inside p i l in
      record {
        local = put-alike c.locals c.locals p _ _ (λ q.
            refl) (ap (λ (z : ℕ). Active i x (Take response (record { 0 = z })))
            (m.state here.node lv));
        state = λ u. sym (put-there c.objects here.node node.state.0 (m.state here.node lv) u);
        held = m.held here.node lv;
        others = λ u side d. refl;
      }
  follows p i x (Take response state) w c l m =
      let here = place_of R p i in
      let node = node_at R w here.node in
      let lv = inside p i l in
      record {
        local =
            put-alike c.locals c.locals p _ _ (λ q. refl)
            (ap (onward_if_found (length (R.path p)) i (Active i x (Take response state)))
            (m.held here.node lv (R.judge here.role response.0 state.0)));
        state = λ u. sym (put-there c.objects here.node node.state.0 (m.state here.node lv) u);
        held = m.held here.node lv;
        others = λ u side d. refl;
      }

  mirrored : (p : ℕ) (l : Local Bool) (w : World Bool)
      (c : Configuration (Local Bool) (Option Bool)) → p < n → local_at w p ≡ l
      → Mirrors R n nodes w c
      → Mirrors R n nodes (after_step_from R p w l) (perform (all_of t) c p (local_action R op p l))
  mirrored p NotBegun w c l e m = record {
    processes_are = m.processes_are;
    nodes_are = m.nodes_are;
    local = λ q lq. put-there c.locals p NotBegun (m.local p l ∙ e) q ∙ m.local q lq;
    state = m.state;
    held = m.held;
  }
  mirrored p (Decided y) w c l e m = m
  mirrored p (Active i x stage) w c l e m =
      both_change p (place_of R p i).node (local_after R (length (R.path p)) i (place_of R p i) x
      stage (node_at R w (place_of R p i).node))
      (node_after R (place_of R p i) x stage (node_at R w (place_of R p i).node)) w c
      (perform (all_of t) c p (stage_action R op (length (R.path p)) i x stage (place_of R p i))) _
      l (inside p i l) m (follows p i x stage w c l m)

  mirrors_step : (p : ℕ) (w : World Bool) (c : Configuration (Local Bool) (Option Bool)) → p < n
      → Mirrors R n nodes w c
      → Mirrors R n nodes (after_step R p w) (step (all_of t) (round_protocol R op) c p)
  mirrors_step p w c l m =
      subst (λ (k : Local Bool). Mirrors R n nodes (after_step R p w)
      (perform (all_of t) c p (local_action R op p k))) (sym (m.local p l))
      (mirrored p (local_at w p) w c l refl m)

  pub mirrors_after : (s : List ℕ) (w : World Bool) (c : Configuration (Local Bool) (Option Bool))
      → IsSchedule n s → Mirrors R n nodes w c
      → Mirrors R n nodes (after_schedule R s w) (after (all_of t) (round_protocol R op) c s)
  mirrors_after [] w c h m = m
  mirrors_after (p ∷ s) w c h m = mirrors_after s (after_step R p w)
      (step (all_of t) (round_protocol R op) c p) h.1 (mirrors_step p w c h.0 m)

  decided_alike : (p : ℕ) (l : Local Bool) → decided_by (local_action R op p l) ≡ decision_of l
  decided_alike p NotBegun = refl
  decided_alike p (Active i x Write) = refl
  decided_alike p (Active i x Apply) = refl
  decided_alike p (Active i x (Read response)) = refl
  decided_alike p (Active i x (Take response state)) = refl
  decided_alike p (Decided y) = refl

  -- the decisions are the same
  pub same_decision : (p : ℕ) (w : World Bool) (c : Configuration (Local Bool) (Option Bool))
      → p < n → Mirrors R n nodes w c
      → decision (round_protocol R op) c p ≡ decision_of (local_at w p)
  same_decision p w c l m = decided_alike p (c.locals p) ∙ ap decision_of (m.local p l)
