-- Traps as lists: evidence that a type is not defended.
use Rattle.std.specs.Prelude.{◌≡◌, ◌≢◌, ◌⊎◌, ℕ, ◌<◌, ◌≤◌, List, length, All, Any, Some, slice_get}
use Rattle.cn_table.specs.TypeTable.{TypeTable, transition}
use Rattle.cn_choice.specs.Canonical.{raw_choice_of}
use Rattle.cn_choice.specs.RawChoices.{RawChoice}
use Rattle.cn_choice.specs.Live.{live_choices}
use Rattle.cn_choice.specs.declared.team.Team.TheVariants.{A, B}
use Rattle.cn_unread.specs.Defended.{Position, Status, start}
use Rattle.cn_unread.specs.Defended.Status.{AheadInFirst, AheadInSecond, Lost, Poised}
use Rattle.cn_game.specs.Boards.{ahead, moved, position_of, state_in, status_of, statuses, times}
use Rattle.cn_game.specs.declared.board.Board.{Board}
use Rattle.cn_game.specs.declared.board.Run.{Run}
use Rattle.cn_game.specs.declared.board.Run.TheVariants.{First, Second}
use Rattle.cn_game.specs.declared.trap.Turn.{Turn}

-- a position of the table: its states and operations are the table's
abbrev pub IsKnownStatus : TypeTable → Status → Type 0
IsKnownStatus t (Poised o) = o < length t.operations
IsKnownStatus t (AheadInFirst o r) = o < length t.operations
IsKnownStatus t (AheadInSecond o r) = o < length t.operations
IsKnownStatus t Lost = Unit {0}

abbrev pub IsBoardOf : TypeTable → Board → Type 0
IsBoardOf t b = (b.first.0 < length t.states) × (b.second.0 < length t.states)
    × All (λ s. IsKnownStatus t (status_of s)) b.standings.items

-- both runs have one state, and one of n processes sees the same in both
abbrev pub IsLeaf : ℕ → Position → Type 0
IsLeaf n x = (x.first ≡ x.second)
    × ((j : ℕ) × (o : ℕ) × (j < n) × (x.status j ≡ Poised o))

-- the board is a part of the position of n processes: it has its states, and its processes are some
-- of them, in any order
abbrev pub IsPart : Board → ℕ → Position → Type 0
IsPart b n x = (b.first.0 ≡ x.first) × (b.second.0 ≡ x.second)
    × ((s : Status) → times s (statuses b.standings.items) (length b.standings.items)
    ≤ times s x.status n)

-- nobody holds out in this position of n processes if none holds out in the positions of the list
abbrev pub IsCaught : List Turn → ℕ → Position → Type 0
IsCaught trap n x = IsLeaf n x ⊎ Any (λ turn. IsPart turn.board n x) trap

-- in run, process j, which has got r in the other run, applies o: the position to which it leads has
-- the property H, whatever the protocol chooses
abbrev pub Answered : TypeTable → (Position → Type 0) → Position → ℕ → Run → ℕ → ℕ → Type 0
Answered t H x j run o r =
    ((transition t o (state_in run x)).0 ≡ r
    → (m : ℕ) → m < length t.operations → H (moved t run x j o (Poised m)))
    × ((transition t o (state_in run x)).0 ≢ r → H (moved t run x j o Lost))

-- the move of process j, for a poised one in this run, leads to a position with the property H,
-- whatever the protocol chooses
abbrev pub ThisMove : TypeTable → (Position → Type 0) → Position → ℕ → Run → Status → Type 0
ThisMove t H x j run (Poised o) =
    H (moved t run x j o (ahead run o (transition t o (state_in run x)).0))
ThisMove t H x j run (AheadInFirst o r) = Answered t H x j Second o r
ThisMove t H x j run (AheadInSecond o r) = Answered t H x j First o r
ThisMove t H x j run Lost = ⊥

-- the move of the turn is one of its processes, and leads into the trap
abbrev pub LeadsBack : TypeTable → List Turn → Turn → Type 0
LeadsBack t trap turn = (turn.process < length turn.board.standings.items)
    × ThisMove t (IsCaught trap (length turn.board.standings.items)) (position_of turn.board)
    turn.process turn.run (statuses turn.board.standings.items turn.process)

-- some process of team A and some of team B begin in the trap
abbrev pub IsCaughtStart : TypeTable → List Turn → RawChoice → Type 0
IsCaughtStart t trap c = (a : ℕ) × (b : ℕ) × (a < length c.operations)
    × (b < length c.operations) × (slice_get c.marks a ≡ Some A) × (slice_get c.marks b ≡ Some B)
    × IsCaught trap (length c.operations) (start t c a b)

-- a trap for all choices for n processes: the move of each turn leads back into the list, and each
-- canonical choice whose operations all lead away from its state begins in it
pub record IsTrapList (t : TypeTable) (n : ℕ) (trap : List Turn) : Type 0 where
  pub leads_back : All (λ turn. IsBoardOf t turn.board × LeadsBack t trap turn) trap
  pub catches_all : All (λ c. IsCaughtStart t trap (raw_choice_of c)) (live_choices t n)
