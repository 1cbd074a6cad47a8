-- What the number of a type says of all protocols. L are the local states of their processes, and
-- V is what their registers hold.
use Rattle.std.specs.Prelude.{◌≡◌, ℕ, ◌<◌, ◌≤◌, ◌^◌, List, ◌++◌, codes, Option, Some, None}
use Rattle.std.specs.Fmt.{decimal}
use Rattle.cn_table.specs.TypeTable.{TypeTable}
use Rattle.cn_crashes.specs.RecoverableConsensusNumber.{IsRecoverableConsensusNumber}
use Rattle.cn_crashes.specs.RecoverableConsensusNumber.{SolvesRecoverableConsensus}
use Rattle.cn_search.specs.declared.exact.ConsensusNumber.{ConsensusNumber}
use Rattle.cn_search.specs.declared.exact.ConsensusNumber.TheVariants.{Finite, Infinite}
use Rattle.cn_solvable.specs.Solving.{IsConsensusNumber, SolvesConsensus}

-- the number that is told: 1 where there is none up to the limit
abbrev pub told : Option ℕ → ℕ
told None = 1
told (Some n) = n

-- the number is not the limit
abbrev pub IsBelow : ℕ → Option ℕ → Type 0
IsBelow limit None = Unit {0}
IsBelow limit (Some n) = n < limit

-- a type with this number up to the limit solves consensus for so many processes, and where the
-- number is not the limit, it is the consensus number of the type
pub record TellsConsensus (L V : Type 0) (t : TypeTable) (limit : ℕ) (number : Option ℕ)
    : Type 0 where
  pub solved : SolvesConsensus t (told number)
  pub exact : IsBelow limit number → IsConsensusNumber L V t (told number)

-- the same for processes that may crash and come back
pub record TellsRecoverable (L V : Type 0) (t : TypeTable) (limit : ℕ) (number : Option ℕ)
    : Type 0 where
  pub solved : SolvesRecoverableConsensus t (told number)
  pub exact : IsBelow limit number → IsRecoverableConsensusNumber L V t (told number)

-- what a number with no limit tells of a task: it is the greatest number of processes for which a
-- type solves the task, or the type solves it for every number
abbrev pub TellsNumber : (ℕ → Type 0) → (ℕ → Type 0) → ConsensusNumber → Type 0
TellsNumber Is Solves (Finite n) = Is n
TellsNumber Is Solves Infinite = (n : ℕ) → 2 ≤ n → Solves n

-- a number in a line of `classify`: N, at least N, or infinite
abbrev pub exactly : ℕ → List ℕ
exactly n = decimal n

abbrev pub at_least : ℕ → List ℕ
at_least n = codes "at least " ++ decimal n

abbrev pub infinite : List ℕ
infinite = codes "infinite"

-- the words of a number in a line
pub data IsNumberText : List ℕ → Type 0 where
  TextExactly : {n : ℕ} → n < 2 ^ 64 → IsNumberText (exactly n)
  TextAtLeast : {n : ℕ} → n < 2 ^ 64 → IsNumberText (at_least n)
  TextInfinite : IsNumberText infinite

-- what the words of a number in a line tell of a task
pub record WordsTell (Is Solves : ℕ → Type 0) (words : List ℕ) : Type 0 where
  pub exact : (n : ℕ) → n < 2 ^ 64 → words ≡ exactly n → Is n
  pub at_least : (n : ℕ) → n < 2 ^ 64 → words ≡ at_least n → Solves n
  pub infinite : words ≡ infinite → (n : ℕ) → 2 ≤ n → Solves n
