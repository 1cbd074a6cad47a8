-- Live choices: each of their operations leads away from the start state.
use Rattle.std.specs.Prelude.{ℕ, ◌≡◌, ◌≢◌, ◌==◌, Bool, not, ◌&&◌, List, length, All}
use Rattle.std.specs.List.{filter, list_all}
use Rattle.cn_table.specs.TypeTable.{TypeTable, transition}
use Rattle.cn_choice.specs.Blocks.{Block, IsBlockOf, canonical_blocks, choices_of_block}
use Rattle.cn_choice.specs.RawChoices.{RawChoice, IsRawChoice}
use Rattle.cn_choice.specs.Canonical.{Choice, IsCanonical, canonical_choices, raw_choice_of}

-- each of the operations, applied in the state, leads to another state
abbrev pub AllMove : TypeTable → ℕ → List ℕ → Type 0
AllMove t state operations = All (λ operation. (transition t operation state).1 ≢ state) operations

-- each operation of the choice leads away from the start state
abbrev pub IsLive : TypeTable → RawChoice → Type 0
IsLive t c = AllMove t c.state c.operations

-- a block of the table for n processes: each operation of team A leads away from the start state
pub record IsLiveBlock (t : TypeTable) (n : ℕ) (k : Block) : Type 0 where
  pub block : IsBlockOf t k
  pub for_n : k.n ≡ n
  pub moves : AllMove t k.state k.a

-- a live canonical choice of the table with the start state and the list of team A of the block
pub record IsLiveIn (t : TypeTable) (k : Block) (c : Choice) : Type 0 where
  pub canonical : IsCanonical c
  pub for_n : IsRawChoice t k.n (raw_choice_of c)
  pub live : IsLive t (raw_choice_of c)
  pub same_state : c.state ≡ k.state
  pub same_a : c.a ≡ k.a

-- whether each of the operations, applied in the state, leads to another state
abbrev pub all_move : TypeTable → ℕ → List ℕ → Bool
all_move t state operations =
    list_all (λ operation. not ((transition t operation state).1 == state)) operations

-- whether the choice is live
abbrev pub is_live : TypeTable → Choice → Bool
is_live t c = all_move t c.state c.a && all_move t c.state c.b

-- the canonical choices of a table for n processes that are live, in their order
unfoldable pub live_choices : TypeTable → ℕ → List Choice
live_choices t n = filter (is_live t) (canonical_choices (length t.states) (length t.operations) n)

-- the choices of a block that are live, in their order
abbrev pub live_in : TypeTable → Block → List Choice
live_in t k = filter (is_live t) (choices_of_block (length t.operations) k)

-- the blocks of a table for n processes in which each operation of team A leads away from the start
-- state, in their order
unfoldable pub live_blocks : TypeTable → ℕ → List Block
live_blocks t n = filter (λ k. all_move t k.state k.a)
    (canonical_blocks (length t.states) (length t.operations) n)
