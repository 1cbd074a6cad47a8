-- The status of a node of a recoverable round: which roles have moved, and which team has won.
use Rattle.std.proofs.Common.{◌≡◌, ◌≢◌, ℕ, ◌<◌, List, [], refl, sym, ap, ◌∙◌, arith, Bool, false}
use Rattle.std.proofs.Common.{true, Option, Some, None}
use Rattle.cn_choice.specs.declared.team.Team.{Team}
use Rattle.cn_choice.specs.declared.team.Team.TheVariants.{A, B}
use Rattle.cn_proto.specs.Order.{after, IsRun}
use Rattle.cn_solvable.specs.RoundProtocol.{register_of}
use Rattle.cn_crashes.specs.RecoverableRound.{RecoverablePlan}

-- Fresh: nobody has moved yet. Begun: these roles have moved since the object was in the start
-- state last, and the first of all was of this team, which has won. Back: the object has come back
-- to the start state, or team A has given way before anyone moved, and team B has won.
pub data Status : Type 0 where
  Fresh : Status
  Begun : Team → List ℕ → Status
  Back : Status

-- the roles that have moved since the object was in the start state last
abbrev pub run_of : Status → List ℕ
run_of Fresh = []
run_of (Begun side order) = order
run_of Back = []

-- the team that has won
abbrev pub winner_of : Status → Option Team
winner_of Fresh = None
winner_of (Begun side order) = Some side
winner_of Back = Some B

abbrev pub IsBack : Status → Type 0
IsBack Fresh = ⊥
IsBack (Begun side order) = ⊥
IsBack Back = Unit {0}

-- the judge is right, and takes the start state for one of team B; only where team A is role 0
-- alone may team B lead back to it
pub record IsRight (R : RecoverablePlan) (n : ℕ) (team : ℕ → Team) : Type 0 where
  pub right : (side : Team) (order : List ℕ) → IsRun n team side order
      → R.judge (after R.round.act R.round.start order) ≡ side
  pub start_is_b : R.judge R.round.start ≡ B
  pub no_way_back : R.lone ≡ false → (order : List ℕ) → IsRun n team B order
      → after R.round.act R.round.start order ≢ R.round.start
  pub loner : R.lone ≡ true → (role : ℕ) → role < n → team role ≡ A → role ≡ 0

-- what the registers of the nodes hold
abbrev pub Registers : Type 0
Registers = ℕ → Option Bool

-- the register of a team at node v holds x
abbrev pub Held : Registers → ℕ → Team → Bool → Type 0
Held rs v side x = rs (register_of v side) ≡ Some x

-- it holds some value
abbrev pub Full : Registers → ℕ → Team → Type 0
Full rs v side = (x : Bool) × Held rs v side x

-- the status of each node. It stands beside the configuration, and no process sees it.
abbrev pub Ghost : Type 0
Ghost = ℕ → Status

-- the value with which a process leaves a node
abbrev pub Outcome : Ghost → Registers → ℕ → Bool → Type 0
Outcome g rs v x = (side : Team) × (winner_of (g v) ≡ Some side) × Held rs v side x

-- what was held stays, and so does the team that has won
pub record Grows (g : Ghost) (rs : Registers) (g' : Ghost) (rs' : Registers) : Type 0 where
  pub held : (v : ℕ) (side : Team) (x : Bool) → Held rs v side x → Held rs' v side x
  pub winner : (v : ℕ) (side : Team) → winner_of (g v) ≡ Some side → winner_of (g' v) ≡ Some side

pub grows_through : (g g' g'' : Ghost) (rs rs' rs'' : Registers) → Grows g rs g' rs'
    → Grows g' rs' g'' rs'' → Grows g rs g'' rs''
grows_through g g' g'' rs rs' rs'' a b = record {
  held = λ v s x h. b.held v s x (a.held v s x h);
  winner = λ v s h. b.winner v s (a.winner v s h);
}

pub outcome_grows : (g g' : Ghost) (rs rs' : Registers) (v : ℕ) (x : Bool) → Grows g rs g' rs'
    → Outcome g rs v x → Outcome g' rs' v x
outcome_grows g g' rs rs' v x a o = (o.0, a.winner v o.0 o.1, a.held v o.0 x o.2)

pub one_outcome : (g : Ghost) (rs : Registers) (v : ℕ) (x y : Bool) → Outcome g rs v x
    → Outcome g rs v y → x ≡ y
one_outcome g rs v x y (s, w, h) (r, u, k) =
    let e : s ≡ r = same (sym w ∙ u) in
    same (sym h ∙ (ap (λ (z : Team). rs (register_of v z)) e ∙ k))
  where
    same : {T : Type 0} {y z : T} → Some y ≡ Some z → y ≡ z
    same e = cc e

-- teams and nodes have registers of their own
pub registers_apart : (u v : ℕ) (s r : Team) → register_of u s ≡ register_of v r → (u ≡ v) × (s ≡ r)
registers_apart u v A A e = (omega (arith, e), refl)
registers_apart u v A B e = absurd (omega (arith, e))
registers_apart u v B A e = absurd (omega (arith, e))
registers_apart u v B B e = (omega (arith, e), refl)
