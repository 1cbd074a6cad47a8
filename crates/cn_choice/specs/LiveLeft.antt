-- The live choices of a block from some choice on, and the blocks from some block on that have live
-- choices.
use Rattle.std.specs.Prelude.{ℕ, ◌≡◌, ◌<◌, ◌==◌, ◌+◌, ◌-◌, Bool, false, not, List, [], ◌∷◌, Option}
use Rattle.std.specs.Prelude.{get_or, if◌then◌else◌, length, map, nat_lt, replicate}
use Rattle.std.specs.List.{filter}
use Rattle.cn_table.specs.TypeTable.{TypeTable, transition}
use Rattle.cn_choice.specs.Blocks.{Block, blocks_left}
use Rattle.cn_choice.specs.Canonical.{Choice}
use Rattle.cn_choice.specs.Live.{all_move, is_live}
use Rattle.cn_choice.specs.Rising.{rising_after}

-- the first of the second lists that combine with a first one
abbrev pub first_second : ℕ → List ℕ → List ℕ
first_second n a = if nat_lt (length a + length a) n then replicate (n - length a) 0 else a

-- the first choice with this state and this first list
abbrev pub first_choice : ℕ → ℕ → List ℕ → Choice
first_choice n state a = record { state = state; a = a; b = first_second n a }

-- the choices of its block after this one
abbrev pub block_after : ℕ → Choice → List Choice
block_after operations c =
    map (λ b. record { state = c.state; a = c.a; b = b }) (rising_after operations c.b)

-- the blocks of a table from the next one on
abbrev pub all_blocks_left : TypeTable → Option Block → List Block
all_blocks_left t next = blocks_left (length t.states) (length t.operations) next

-- the blocks of these in which each operation of team A leads away from the start state
abbrev pub live_blocks_left : TypeTable → Option Block → List Block
live_blocks_left t next = filter (λ k. all_move t k.state k.a) (all_blocks_left t next)

-- for each operation of the table, by its number: whether it leads from the state to another one
abbrev pub AreMoving : TypeTable → ℕ → List Bool → Type 0
AreMoving t state moving = (operation : ℕ) → operation < length t.operations
    → get_or moving operation false ≡ not ((transition t operation state).1 == state)

-- the live choices of its block after this one
abbrev pub live_after : TypeTable → Choice → List Choice
live_after t c = filter (is_live t) (block_after (length t.operations) c)

-- the live choices of its block from this one on, unless it is behind the last one
abbrev pub live_from : TypeTable → Bool → Choice → List Choice
live_from t left c =
    if left then filter (is_live t) (c ∷ block_after (length t.operations) c) else []
