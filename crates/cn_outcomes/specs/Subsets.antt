-- Orders of exactly the processes of a subset. A subset is a number whose bit p says whether
-- process p is in it.
use Rattle.std.specs.Prelude.{◌≡◌, ◌≢◌, ℕ, ◌<◌, ◌⊎◌, ◌↔◌, List, length, slice_index, slice_get}
use Rattle.std.specs.Prelude.{Contains, IsBitSet, Some, slice_index_or, []}
use Rattle.cn_outcomes.specs.declared.limits.TheConstants.{SUBSETS}
use Rattle.cn_choice.specs.declared.team.Team.{Team}
use Rattle.cn_table.specs.TypeTable.{TypeTable}
use Rattle.cn_table.specs.Run.{state_after}
use Rattle.cn_choice.specs.RawChoices.{RawChoice}
use Rattle.cn_choice.specs.Orders.{IsOrder}
use Rattle.cn_choice.specs.OutcomeSets.{BeginsIn, operations_of, pair_of}
use Rattle.cn_outcomes.specs.PairSets.{Has}
use Rattle.cn_outcomes.specs.Twins.{IsPacked}
use Rattle.cn_choice.specs.Moves.{answer_of, next_of}

-- an order of exactly the processes of the subset
pub record IsOrderOf (n subset : ℕ) (order : List ℕ) : Type 0 where
  pub ordered : IsOrder n order
  pub exactly : (p : ℕ) → Contains order p ↔ IsBitSet subset p

-- some order of exactly this subset that begins in the team leaves the object in this state
abbrev pub LeavesState : TypeTable → RawChoice → Team → ℕ → ℕ → Type 0
LeavesState t c team subset state =
    (order : List ℕ) × IsOrderOf (length c.operations) subset order × BeginsIn c team order
    × (state_after t c.state (operations_of c order) ≡ state)

-- some order of exactly this subset that begins in the team gives process j this response and
-- leaves this state
abbrev pub GivesPair : TypeTable → RawChoice → Team → ℕ → ℕ → ℕ → ℕ → Type 0
GivesPair t c team j subset response state =
    (order : List ℕ) × IsOrderOf (length c.operations) subset order × BeginsIn c team order
    × (pair_of t c order j ≡ Some (response, state))

-- the subset without process p
abbrev pub IsWithout : ℕ → ℕ → ℕ → Type 0
IsWithout subset p rest = (i : ℕ) → IsBitSet rest i ↔ (IsBitSet subset i × (i ≢ p))

-- the states in which process p may find the object after the others: the start state if there are
-- no others and p is in the team
abbrev pub FindsState : TypeTable → RawChoice → Team → ℕ → ℕ → ℕ → Type 0
FindsState t c team p rest state = ((rest ≡ 0) × (slice_get c.marks p ≡ Some team)
    × (c.state ≡ state)) ⊎ LeavesState t c team rest state

-- each number of the set is below the bound
abbrev pub Below : ℕ → ℕ → Type 0
Below bound set = (q : ℕ) → IsBitSet set q → q < bound

-- for each subset below the end with a row, the row is the set of these states, which are below the
-- bound
pub record AreRowsOf (has_row : ℕ → Type 0) (states : ℕ → ℕ → Type 0) (bound end : ℕ)
    (rows : List ℕ) : Type 0 where
  pub same : (subset : ℕ) → subset < end → has_row subset → (q : ℕ)
      → IsBitSet (slice_index rows subset) q ↔ states subset q
  pub known : (subset : ℕ) → subset < end → has_row subset → Below bound (slice_index rows subset)
  pub long : length rows ≡ SUBSETS

-- the rows of the packed subsets: the states in which orders of a subset leave the object
abbrev pub AreSubsetRows : TypeTable → RawChoice → Team → ℕ → ℕ → List ℕ → Type 0
AreSubsetRows t c team links end rows =
    AreRowsOf (IsPacked links) (LeavesState t c team) (length t.states) end rows

-- process p moved last: it is j, or j moved before
abbrev pub GivesLast : TypeTable → RawChoice → Team → ℕ → ℕ → ℕ → ℕ → ℕ → Type 0
GivesLast t c team j p rest response state =
    ((p ≡ j) × ((found : ℕ) × FindsState t c team p rest found × (answer_of t c p found ≡ response)
    × (next_of t c p found ≡ state)))
    ⊎ ((p ≢ j)
    × ((found : ℕ) × GivesPair t c team j rest response found × (next_of t c p found ≡ state)))

-- process j moved last of the subset
abbrev pub OwnLast : TypeTable → RawChoice → Team → ℕ → ℕ → ℕ → ℕ → Type 0
OwnLast t c team j subset response state =
    (rest : ℕ) × IsWithout subset j rest × ((found : ℕ) × FindsState t c team j rest found
    × (answer_of t c j found ≡ response) × (next_of t c j found ≡ state))

-- process p moved last of the subset, and j before it
abbrev pub OtherLast : TypeTable → RawChoice → Team → ℕ → ℕ → ℕ → ℕ → ℕ → Type 0
OtherLast t c team j subset state p response =
    (rest : ℕ) × IsWithout subset p rest
    × ((found : ℕ) × GivesPair t c team j rest response found × (next_of t c p found ≡ state))

-- for each packed subset below the end, the set of the pairs that its orders give to process j
pub record ArePairs (t : TypeTable) (c : RawChoice) (team : Team) (j links end : ℕ)
    (sets : List (List ℕ)) : Type 0 where
  pub same : (subset : ℕ) → subset < end → IsPacked links subset → (r q : ℕ)
      → Has (slice_index_or sets subset []) r q ↔ GivesPair t c team j subset r q
  pub long : length sets ≡ SUBSETS
