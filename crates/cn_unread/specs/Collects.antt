-- Collects: what processes can see of an object by several silent operations, one after the other.
-- Source: Afek, Attiya, Dolev, Gafni, Merritt and Shavit, Atomic snapshots of shared memory, 1993:
-- collects of registers.
use Rattle.std.specs.Prelude.{◌≡◌, ℕ, ◌<◌, List, length, slice_index}
use Rattle.cn_table.specs.TypeTable.{TypeTable, transition}
use Rattle.cn_choice.specs.OutcomeSets.{InOutcomeSet}
use Rattle.cn_choice.specs.RawChoices.{IsRawChoice, RawChoice}
use Rattle.cn_choice.specs.declared.team.Team.TheVariants.{A, B}
use Rattle.cn_unread.specs.Views.{IsSilent}

-- silent operations
abbrev pub AreLooks : TypeTable → List ℕ → Type 0
AreLooks t looks = (i : ℕ) → i < length looks → IsSilent t (slice_index looks i)

-- all of them get the same responses in both states
abbrev pub LookAlike : TypeTable → List ℕ → ℕ → ℕ → Type 0
LookAlike t looks p q = (i : ℕ) → i < length looks
    → (transition t (slice_index looks i) p).0 ≡ (transition t (slice_index looks i) q).0

-- no process has the same response in orders that begin in different teams, with last states that
-- look alike
abbrev pub IsVisible : TypeTable → List ℕ → RawChoice → Type 0
IsVisible t looks c = (j r p q : ℕ) → InOutcomeSet t c A j (r, p) → InOutcomeSet t c B j (r, q)
    → LookAlike t looks p q → ⊥

-- some raw choice for n processes is visible
abbrev pub IsVisibleFor : TypeTable → ℕ → Type 0
IsVisibleFor t n = (looks : List ℕ) × AreLooks t looks × (c : RawChoice) × IsRawChoice t n c
    × IsVisible t looks c
