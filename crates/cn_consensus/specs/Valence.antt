-- Valence: which values can still be decided.
-- Source: Fischer, Lynch and Paterson, Impossibility of distributed consensus, 1985; critical
-- configurations are those of Herlihy, Wait-free synchronization, 1991.
use Rattle.std.specs.Prelude.{◌≡◌, ◌<◌, ℕ, List, Bool, true, false, Some, length, replicate}
use Rattle.cn_table.specs.TypeTable.{TypeTable}
use Rattle.cn_consensus.specs.Protocol.{Protocol}
use Rattle.cn_consensus.specs.Configuration.{Configuration, after, decision, step}
use Rattle.cn_consensus.specs.Consensus.{IsSchedule}

-- x-valent, so univalent: from here on no process decides another value than x
abbrev pub IsValent : {L V : Type 0} → (ℕ → TypeTable) → ℕ → Protocol L V
    → Bool → Configuration L V → Type 0
IsValent t n P x c = (schedule : List ℕ) → IsSchedule n schedule → (p : ℕ) → p < n → (y : Bool)
    → decision P (after t P c schedule) p ≡ Some y → y ≡ x

-- each process decides if it runs alone from here
abbrev pub DecidesAlone : {L V : Type 0} → (ℕ → TypeTable) → ℕ → Protocol L V
    → Configuration L V → Type 0
DecidesAlone t n P c = (p : ℕ) → p < n
    → (steps : ℕ) × (x : Bool) × (decision P (after t P c (replicate steps p)) p ≡ Some x)

-- a critical configuration: each step of a process leads to a univalent one, and both valences
-- occur
pub record IsCritical {L V : Type 0} (t : ℕ → TypeTable) (n : ℕ) (P : Protocol L V)
    (c : Configuration L V) : Type 0 where
  pub valence : ℕ → Bool
  pub valent : (p : ℕ) → p < n → IsValent t n P (valence p) (step t P c p)
  pub low : ℕ
  pub low_known : low < n
  pub low_valence : valence low ≡ false
  pub high : ℕ
  pub high_known : high < n
  pub high_valence : valence high ≡ true
  -- what holds of every configuration that a consensus protocol reaches: after each schedule each
  -- process decides if it runs alone, and each object is in a state of its type
  pub finishes : (schedule : List ℕ) → IsSchedule n schedule
      → DecidesAlone t n P (after t P c schedule)
  pub states_known : (i : ℕ) → c.objects i < length (t i).states
