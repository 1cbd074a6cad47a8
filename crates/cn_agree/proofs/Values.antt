-- The origin of values.
use Rattle.std.proofs.Common.{ℕ, zero, suc, ◌≡◌, ◌⊎◌, inl, inr, Bool, true, false, ◌+◌, List, [], ◌∷◌, length, slice_set, slice_index_or, Option, Some, None, refl, ap, nat_lt, get_or, set}
use Rattle.cn_agree.specs.declared.node.Node.{Node}
use Rattle.cn_table.specs.declared.elements.State.{State}
use Rattle.cn_table.specs.declared.elements.Response.{Response}
use Rattle.cn_choice.specs.declared.team.Team.{Team}
use Rattle.cn_choice.specs.declared.team.Team.TheVariants.{A, B}
use Rattle.cn_proto.specs.declared.place.Place.{Place}
use Rattle.cn_agree.specs.declared.local.Stage.{Stage}
use Rattle.cn_agree.specs.declared.local.Stage.TheVariants.{Write, Apply, Read, Take}
use Rattle.cn_agree.specs.declared.local.Local.{Local}
use Rattle.cn_agree.specs.declared.local.Local.TheVariants.{NotBegun, Active, Decided}
use Rattle.cn_proto.specs.Protocol.{ProtocolOfRounds, place_of}
use Rattle.cn_agree.specs.World.{World, node_at, local_at, register, with_register, fresh_node}
use Rattle.cn_agree.specs.Steps.{node_after, local_after, after_action, onward_if_found, onward, after_step, after_step_from}

set_cases : {A : Type 0} (l : List A) (i : ℕ) (a : A) (j : ℕ) (d : A) → ((get_or (set l i a) j d ≡ a) × (j ≡ i)) ⊎ (get_or (set l i a) j d ≡ get_or l j d)
set_cases [] i a j d = inr refl
set_cases (x ∷ l) zero a zero d = inl (refl, refl)
set_cases (x ∷ l) zero a (suc j) d = inr refl
set_cases (x ∷ l) (suc i) a zero d = inr refl
set_cases (x ∷ l) (suc i) a (suc j) d = elim (set_cases l i a j d) [ inl h ↦ inl (h.0, ap suc h.1) | inr h ↦ inr h ]

-- every value in a register, and every decision, is one of Q; an active process has one of Q or one of its own
abbrev pub IsOfLocal : {V : Type 0} → (V → Type 0) → (ℕ → V → Type 0) → ℕ → Local V → Type 0
IsOfLocal Q own p NotBegun = Unit {0}
IsOfLocal Q own p (Active i x stage) = own p x ⊎ Q x
IsOfLocal Q own p (Decided y) = Q y

pub record AreOf {V : Type 0} (P : ProtocolOfRounds) (Q : V → Type 0) (own : ℕ → V → Type 0) (w : World V) : Type 0 where
  pub registers : (v : ℕ) (team : Team) (y : V) → register (node_at P w v) team ≡ Some y → Q y
  pub locals : (p : ℕ) → IsOfLocal Q own p (local_at w p)

written_of : {V : Type 0} (Q : V → Type 0) (node : Node V) (mine team : Team) (x y : V) → ((team : Team) (y : V) → register node team ≡ Some y → Q y) → Q x
    → register (with_register node mine x) team ≡ Some y → Q y
written_of Q node A A x y old new h = let e : x ≡ y = cc in rw (← e) new
written_of Q node A B x y old new h = old B y h
written_of Q node B A x y old new h = old A y h
written_of Q node B B x y old new h = let e : x ≡ y = cc in rw (← e) new

moved_of : {V : Type 0} (Q : V → Type 0) (node : Node V) (state : State) (team : Team) (y : V) → ((team : Team) (y : V) → register node team ≡ Some y → Q y)
    → register (record node { state = state }) team ≡ Some y → Q y
moved_of Q node state A y old h = old A y h
moved_of Q node state B y old h = old B y h

module _ {V : Type 0} (P : ProtocolOfRounds) (Q : V → Type 0) (own : ℕ → V → Type 0) (w : World V) (are : AreOf P Q own w) (p : ℕ) (owned : (x : V) → own p x → Q x) where
  mine_of : (i : ℕ) (x : V) (stage : Stage) → local_at w p ≡ Active i x stage → Q x
  mine_of i x stage e = let h : own p x ⊎ Q x = rw e at (are.locals p) in elim h [ inl o ↦ owned x o | inr q ↦ q ]

  locals_of : (here : Local V) → IsOfLocal Q own p here → (q : ℕ) → IsOfLocal Q own q (slice_index_or (slice_set w.locals p here) q NotBegun)
  locals_of here h q = elim (set_cases w.locals p here q NotBegun) [ inl e ↦ rw (e.0, e.1) h | inr e ↦ rw e (are.locals q) ]

  nodes_of : (v : ℕ) (node : Node V) → ((team : Team) (y : V) → register node team ≡ Some y → Q y) → (u : ℕ) (team : Team) (y : V)
      → register (slice_index_or (slice_set w.nodes v node) u (fresh_node P.start)) team ≡ Some y → Q y
  nodes_of v node old u team y h = elim (set_cases w.nodes v node u (fresh_node P.start)) [ inl e ↦ old team y (rw e.0 at h) | inr e ↦ are.registers u team y (rw e at h) ]

  changed_of : (here : Place) (x : V) (stage : Stage) (node : Node V) → Q x → ((team : Team) (y : V) → register node team ≡ Some y → Q y) → (team : Team) (y : V)
      → register (node_after P here x stage node) team ≡ Some y → Q y
  changed_of here x Write node q old team y h = written_of Q node here.team team x y old q h
  changed_of here x Apply node q old team y h = moved_of Q node (record { 0 = (P.act here.role node.state.0).1 }) team y old h
  changed_of here x (Read response) node q old team y h = old team y h
  changed_of here x (Take response state) node q old team y h = old team y h

  onward_of : (y : V) (i : ℕ) → Q y → (more : Bool) → nat_lt (i + 1) (length (P.path p)) ≡ more → IsOfLocal Q own p (onward (length (P.path p)) i y)
  onward_of y i h true is = rw is (inr h)
  onward_of y i h false is = rw is h

  taken_of : (i : ℕ) (x : V) (response : Response) (state : State) (found : Option V) → ((y : V) → found ≡ Some y → Q y) → Q x
      → IsOfLocal Q own p (onward_if_found (length (P.path p)) i (Active i x (Take response state)) found)
  taken_of i x response state None h q = inr q
  taken_of i x response state (Some y) h q = onward_of y i (h y refl) (nat_lt (i + 1) (length (P.path p))) refl

  next_of : (i : ℕ) (here : Place) (x : V) (stage : Stage) (node : Node V) → Q x → ((team : Team) (y : V) → register node team ≡ Some y → Q y)
      → IsOfLocal Q own p (local_after P (length (P.path p)) i here x stage node)
  next_of i here x Write node q old = inr q
  next_of i here x Apply node q old = inr q
  next_of i here x (Read response) node q old = inr q
  next_of i here x (Take response state) node q old =
      taken_of i x response state (register node (P.judge here.role response.0 state.0)) (λ y h. old (P.judge here.role response.0 state.0) y h) q

  action_of : (i : ℕ) (x : V) (stage : Stage) (here : Place) → local_at w p ≡ Active i x stage → AreOf P Q own (after_action P p w i x stage here)
  action_of i x stage here e =
      let q = mine_of i x stage e in
      let node : Node V = node_at P w here.node in
      record {
        registers = nodes_of here.node (node_after P here x stage node) (changed_of here x stage node q (are.registers here.node));
        locals = locals_of (local_after P (length (P.path p)) i here x stage node) (next_of i here x stage node q (are.registers here.node));
      }

  pub step_of : AreOf P Q own (after_step P p w)
  step_of = go (local_at w p) refl
    where
      go : (here : Local V) → local_at w p ≡ here → AreOf P Q own (after_step_from P p w here)
      go NotBegun e = are
      go (Active i x stage) e = action_of i x stage (place_of P p i) e
      go (Decided y) e = are

-- the same for larger Q and larger sets of own values
pub are_more : {V : Type 0} (P : ProtocolOfRounds) (Q Q' : V → Type 0) (own own' : ℕ → V → Type 0) (w : World V) → ((y : V) → Q y → Q' y) → ((q : ℕ) (y : V) → own q y → own' q y)
    → AreOf P Q own w → AreOf P Q' own' w
are_more {V = V} P Q Q' own own' w more more_own are = record {
  registers = λ v team y h. more y (are.registers v team y h);
  locals = λ q. local_more q (local_at w q) (are.locals q);
}
  where
    local_more : (q : ℕ) (here : Local V) → IsOfLocal Q own q here → IsOfLocal Q' own' q here
    local_more q NotBegun h = tt
    local_more q (Active i y stage) (inl h) = inl (more_own q y h)
    local_more q (Active i y stage) (inr h) = inr (more y h)
    local_more q (Decided y) h = more y h
