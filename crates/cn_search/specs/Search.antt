-- What a search goes over, and what it knows of it.
use Rattle.std.specs.Prelude.{ℕ, ◌+◌, List, Option, Some, None, MatchOption}
use Rattle.std.specs.Prelude.{Contains, ◌≤◌, IsBitSet}
use Rattle.std.specs.List.{flat_map}
use Rattle.cn_table.specs.TypeTable.{TypeTable}
use Rattle.cn_choice.specs.declared.limits.TheConstants.{MOST_PROCESSES}
use Rattle.cn_choice.specs.Blocks.{Block}
use Rattle.cn_choice.specs.Canonical.{Choice}
use Rattle.cn_choice.specs.Discerning.{IsWitness}
use Rattle.cn_choice.specs.Live.{live_blocks, live_choices, live_in}
use Rattle.cn_choice.specs.RawChoices.{IsRawChoice, RawChoice}
use Rattle.cn_finding.specs.Evidence.{IsFirstAmong, IsFirstWitness, NoneIsWitness}

-- the live choices of blocks of the type, one block after the other
abbrev pub choices_of_all : TypeTable → List Block → List Choice
choices_of_all t blocks = flat_map (live_in t) blocks

-- a block of the type for 2 to MOST_PROCESSES processes
pub record IsListedBlock (t : TypeTable) (k : Block) : Type 0 where
  pub some : 2 ≤ k.n
  pub few : k.n ≤ MOST_PROCESSES
  pub listed : Contains (live_blocks t k.n) k

-- a block of the type none of whose live choices is a witness
pub record IsRefutedBlock (t : TypeTable) (k : Block) : Type 0 where
  pub block : IsListedBlock t k
  pub none : NoneIsWitness t (live_in t k)

-- the first witness of the type for n processes if it is known, else n is a number for which stocks
-- decide
abbrev pub IsKnownAt : TypeTable → ℕ → Option Choice → Type 0
IsKnownAt t n witness = MatchOption witness (3 ≤ n) (IsFirstWitness t (live_choices t n))

-- the start state of each witness of the type for n processes is in the set
abbrev pub HasStarts : TypeTable → ℕ → ℕ → Type 0
HasStarts t n starts = (c : RawChoice) → IsRawChoice t n c → IsWitness t c → IsBitSet starts c.state

-- the first witness of the blocks that are kept, if they have one, is that of all blocks
abbrev pub HaveFirstOf : TypeTable → List Block → List Block → Type 0
HaveFirstOf t all kept =
    (found : Option Choice) → IsFirstAmong (IsWitness t) (choices_of_all t kept) found
    → IsFirstAmong (IsWitness t) (choices_of_all t all) found

-- the least number of processes above a number, which is 2 if there is none
abbrev pub first_above : Option ℕ → ℕ
first_above None = 2
first_above (Some n) = n + 1
