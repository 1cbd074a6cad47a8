-- What holds of a recoverable round while it runs: of its nodes, its registers and its processes.
use Rattle.std.proofs.Common.{◌≡◌, ℕ, zero, suc, ◌<◌, length, sym, ap, ◌∙◌, subst, Bool, true}
use Rattle.std.proofs.Common.{Option, Some}
use Rattle.cn_table.specs.TypeTable.{TypeTable, transition}
use Rattle.cn_choice.specs.declared.team.Team.{Team}
use Rattle.cn_choice.specs.declared.team.Team.TheVariants.{A, B}
use Rattle.cn_choice.proofs.ListLemmas.Members.{IsIn}
use Rattle.cn_proto.specs.Order.{after, IsRun}
use Rattle.cn_proto.specs.Protocol.{place_of}
use Rattle.cn_proto.specs.Sound.{IsFedAlike, IsPlace, IsSound}
use Rattle.cn_proto.specs.declared.place.Place.{Place}
use Rattle.cn_consensus.specs.Configuration.{Configuration}
use Rattle.cn_crashes.specs.RecoverableRound.{RecoverableLocal, RecoverablePlan, RecoverableStage}
use Rattle.cn_crashes.specs.RecoverableRound.RecoverableLocal.{Active, Decided}
use Rattle.cn_crashes.specs.RecoverableRound.RecoverableStage.{Write, Look, Peek, Act, Again, Take}
use Rattle.cn_crashes.proofs.NodeStatus.{Full, Ghost, Grows, Held, IsBack, IsRight, Outcome}
use Rattle.cn_crashes.proofs.NodeStatus.{Registers, Status, one_outcome, outcome_grows, run_of}
use Rattle.cn_crashes.proofs.NodeStatus.{winner_of}
use Rattle.cn_crashes.proofs.NodeStatus.Status.{Fresh, Begun, Back}

-- the round of a right plan, with the inputs of its processes
pub record Setting : Type 0 where
  pub table : TypeTable
  pub plan : RecoverablePlan
  pub count : ℕ
  pub nodes : ℕ
  pub team : ℕ → Team
  pub sound : IsSound plan.round count nodes team
  pub right : IsRight plan count team
  pub acts : (role q : ℕ) → plan.round.act role q ≡ transition table (plan.operation role) q
  pub inputs : ℕ → Bool

abbrev pub World : Type 0
World = Configuration RecoverableLocal (Option Bool)

module _ (S : Setting) where
  -- the place of process p at position i of its path
  abbrev pub at : ℕ → ℕ → Place
  at p i = place_of S.plan.round p i

  -- some process has this input
  abbrev pub IsInput : Bool → Type 0
  IsInput x = (q : ℕ) × (q < S.count) × (S.inputs q ≡ x)

  -- what holds of a node, whose object is in state q
  abbrev pub StatusHolds : Status → ℕ → Registers → ℕ → Type 0
  StatusHolds Fresh q rs v = q ≡ S.plan.round.start
  StatusHolds (Begun side order) q rs v = IsRun S.count S.team side order ×
      (q ≡ after S.plan.round.act S.plan.round.start order) × Full rs v side
  StatusHolds Back q rs v = (S.plan.lone ≡ true) × (q ≡ S.plan.round.start) × Full rs v B

  -- a process comes to its place with this value
  abbrev pub FedFrom : Ghost → Registers → ℕ → ℕ → Bool → Type 0
  FedFrom g rs p zero x = x ≡ S.inputs p
  FedFrom g rs p (suc j) x = Outcome g rs (at p j).node x

  -- a process that may peek or act has not moved since the object was in the start state last
  abbrev pub MayPeek : Status → Place → Type 0
  MayPeek st here = IsIn here.role (run_of st) → ⊥

  abbrev pub MayAct : Status → Place → Type 0
  MayAct st here = (IsIn here.role (run_of st) → ⊥) × (IsBack st → here.team ≡ B)

  -- what holds of a process at a place in each stage
  abbrev pub StageHolds : Ghost → Registers → Place → RecoverableStage → Type 0
  StageHolds g rs here Write = Unit {0}
  StageHolds g rs here Look = Full rs here.node here.team
  StageHolds g rs here Peek = Full rs here.node here.team × MayPeek (g here.node) here ×
      (S.plan.lone ≡ true) × (here.team ≡ A)
  StageHolds g rs here Act = Full rs here.node here.team × MayAct (g here.node) here
  StageHolds g rs here Again = (side : Team) × (winner_of (g here.node) ≡ Some side)
  StageHolds g rs here (Take side) = winner_of (g here.node) ≡ Some side

  -- what holds of a process in its local state
  abbrev pub LocalHolds : Ghost → Registers → ℕ → RecoverableLocal → Type 0
  LocalHolds g rs p (Active i x stage) = (i < length (S.plan.round.path p)) × IsInput x × FedFrom g
      rs p
      i x × StageHolds g rs (at p i) stage
  LocalHolds g rs p (Decided y) = IsInput y × Outcome g rs 0 y

  -- someone has come to the node, in the team, with this value
  abbrev pub HeldBy : Ghost → Registers → ℕ → Team → Bool → Type 0
  HeldBy g rs v side x = (p : ℕ) × (i : ℕ) × IsPlace S.plan.round S.count p i × ((at p i).node ≡ v)
      ×
      ((at p i).team ≡ side) × IsInput x × FedFrom g rs p i x

  -- what holds in each configuration, with a status for each node
  pub record Holds (g : Ghost) (c : World) : Type 0 where
    pub status : (v : ℕ) → StatusHolds (g v) (c.objects v) c.registers v
    pub held : (v : ℕ) (side : Team) (x : Bool) → Held c.registers v side x
        → HeldBy g c.registers v side x
    pub local : (p : ℕ) → p < S.count → LocalHolds g c.registers p (c.locals p)

  -- ---- what grows

  pub fed_grows : (g g' : Ghost) (rs rs' : Registers) (p i : ℕ) (x : Bool) → Grows g rs g' rs'
      → FedFrom g rs p i x → FedFrom g' rs' p i x
  fed_grows g g' rs rs' p zero x a h = h
  fed_grows g g' rs rs' p (suc j) x a h = outcome_grows g g' rs rs' (at p j).node x a h

  full_grows : (g g' : Ghost) (rs rs' : Registers) (v : ℕ) (side : Team) → Grows g rs g' rs'
      → Full rs v side → Full rs' v side
  full_grows g g' rs rs' v side a h = (h.0, a.held v side h.0 h.1)

  -- what a process may do, it may do still
  abbrev pub StillMay : Status → Status → Place → Type 0
  StillMay st st' here = (MayPeek st here → MayPeek st' here) × (MayAct st here → MayAct st' here)

  stage_grows : (g g' : Ghost) (rs rs' : Registers) (here : Place) (stage : RecoverableStage)
      → Grows g rs g' rs' → StillMay (g here.node) (g' here.node) here
      → StageHolds g rs here stage → StageHolds g' rs' here stage
  stage_grows g g' rs rs' here Write a m h = h
  stage_grows g g' rs rs' here Look a m h = full_grows g g' rs rs' here.node here.team a h
  stage_grows g g' rs rs' here Peek a m h = (
    full_grows g g' rs rs' here.node here.team a h.0,
    m.0 h.1,
    h.2,
    h.3,
  )
  stage_grows g g' rs rs' here Act a m h = (
    full_grows g g' rs rs' here.node here.team a h.0,
    m.1 h.1,
  )
  stage_grows g g' rs rs' here Again a m h = (h.0, a.winner here.node h.0 h.1)
  stage_grows g g' rs rs' here (Take side) a m h = a.winner here.node side h

  pub local_grows : (g g' : Ghost) (rs rs' : Registers) (p : ℕ) (l : RecoverableLocal)
      → Grows g rs g' rs'
      → ((i : ℕ) → i < length (S.plan.round.path p)
      → StillMay (g (at p i).node) (g' (at p i).node) (at p i)) → LocalHolds g rs p l
      → LocalHolds g' rs' p l
  local_grows g g' rs rs' p (Active i x stage) a m h = (
    h.0,
    h.1,
    fed_grows g g' rs rs' p i x a h.2,
    stage_grows g g' rs rs' (at p i) stage a (m i h.0) h.3,
  )
  local_grows g g' rs rs' p (Decided y) a m h = (h.0, outcome_grows g g' rs rs' 0 y a h.1)

  pub status_grows : (st : Status) (q q' : ℕ) (rs rs' : Registers) (v : ℕ)
      → ((side : Team) (x : Bool) → Held rs v side x → Held rs' v side x) → q' ≡ q
      → StatusHolds st q rs v → StatusHolds st q' rs' v
  status_grows Fresh q q' rs rs' v k e h = e ∙ h
  status_grows (Begun side order) q q' rs rs' v k e h = (h.0, e ∙ h.1, (h.2.0, k side h.2.0 h.2.1))
  status_grows Back q q' rs rs' v k e h = (h.0, e ∙ h.1, (h.2.0, k B h.2.0 h.2.1))

  -- all that come to a node in a team have one value
  pub fed_alike : (g : Ghost) (rs : Registers) (p i q j : ℕ) (x y : Bool)
      → IsPlace S.plan.round S.count p i
      → IsPlace S.plan.round S.count q j → (at p i).node ≡ (at q j).node
      → (at p i).team ≡ (at q j).team
      → FedFrom g rs p i x → FedFrom g rs q j y → x ≡ y
  fed_alike g rs p i q j x y a b e f h k = by_places i j (S.sound.fed p i q j a b e f) h k
    where
      by_places : (i j : ℕ) → IsFedAlike S.plan.round p i q j → FedFrom g rs p i x
          → FedFrom g rs q j y
          → x ≡ y
      by_places zero zero same h k = h ∙ (ap S.inputs same ∙ sym k)
      by_places zero (suc j) same h k = absurd same
      by_places (suc i) zero same h k = absurd same
      by_places (suc i) (suc j) same h k = one_outcome g rs (at q j).node x y (subst (λ (v : ℕ).
          Outcome g rs v x) same h) k
