-- What a step touches: one register, or one object.
use Rattle.std.specs.Prelude.{◌≡◌, ◌≢◌, ◌⊎◌, ℕ}
use Rattle.cn_table.specs.TypeTable.{TypeTable}
use Rattle.cn_consensus.specs.Protocol.{Action}
use Rattle.cn_consensus.specs.Protocol.Action.{Decide, ReadRegister, WriteRegister, ApplyOperation}
use Rattle.cn_consensus.specs.Protocol.Action.{ReadObject}
use Rattle.cn_consensus.specs.Configuration.{Configuration, perform}

-- whatever else differs, with the same local state and the same content of register i the process
-- comes to the same local state, and only this register can change
pub record TouchesRegister {L V : Type 0} (t : ℕ → TypeTable) (p : ℕ) (a : Action L V) (i : ℕ)
    : Type 0 where
  pub answer : (c d : Configuration L V) → c.locals p ≡ d.locals p → c.registers i ≡ d.registers i
      → (perform t c p a).locals p ≡ (perform t d p a).locals p
  pub registers : (c : Configuration L V) (j : ℕ) → j ≢ i
      → (perform t c p a).registers j ≡ c.registers j
  pub objects : (c : Configuration L V) (j : ℕ) → (perform t c p a).objects j ≡ c.objects j

-- the same for object i
pub record TouchesObject {L V : Type 0} (t : ℕ → TypeTable) (p : ℕ) (a : Action L V) (i : ℕ)
    : Type 0 where
  pub answer : (c d : Configuration L V) → c.locals p ≡ d.locals p → c.objects i ≡ d.objects i
      → (perform t c p a).locals p ≡ (perform t d p a).locals p
  pub registers : (c : Configuration L V) (j : ℕ) → (perform t c p a).registers j ≡ c.registers j
  pub objects : (c : Configuration L V) (j : ℕ) → j ≢ i
      → (perform t c p a).objects j ≡ c.objects j

-- the action touches one register alone, or one object alone
abbrev pub TouchesOne : {L V : Type 0} → (ℕ → TypeTable) → ℕ → Action L V → Type 0
TouchesOne t p a = ((i : ℕ) × TouchesRegister t p a i) ⊎ ((i : ℕ) × TouchesObject t p a i)

-- the action reads an object
abbrev pub ReadsObject : {L V : Type 0} → Action L V → Type 0
ReadsObject (Decide x) = ⊥
ReadsObject (ReadRegister i k) = ⊥
ReadsObject (WriteRegister i v l) = ⊥
ReadsObject (ApplyOperation i operation k) = ⊥
ReadsObject (ReadObject i k) = Unit {0}
