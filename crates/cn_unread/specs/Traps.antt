-- Traps: how a choice is shown not to be defended. New here.
use Rattle.std.specs.Prelude.{◌≡◌, ◌≢◌, ◌⊎◌, ℕ, ◌<◌, length, Some}
use Rattle.std.specs.Prelude.{slice_get}
use Rattle.cn_table.specs.TypeTable.{TypeTable, transition}
use Rattle.cn_choice.specs.declared.team.Team.TheVariants.{A, B}
use Rattle.cn_choice.specs.RawChoices.{IsRawChoice, RawChoice}
use Rattle.cn_unread.specs.Defended.{Position, Status, moved_first, moved_second, start}
use Rattle.cn_unread.specs.Defended.Status.{AheadInFirst, AheadInSecond, Lost, Poised}

-- process j has a move that leads to a position with the property H, whatever the protocol chooses
abbrev pub SomeMove : TypeTable → (Position → Type 0) → Position → ℕ → Status → Type 0
SomeMove t H x j (Poised o) =
    H (moved_first t x j o (AheadInFirst o (transition t o x.first).0))
    ⊎ H (moved_second t x j o (AheadInSecond o (transition t o x.second).0))
SomeMove t H x j (AheadInFirst o r) =
    ((transition t o x.second).0 ≡ r
    → (m : ℕ) → m < length t.operations → H (moved_second t x j o (Poised m)))
    × ((transition t o x.second).0 ≢ r → H (moved_second t x j o Lost))
SomeMove t H x j (AheadInSecond o r) =
    ((transition t o x.first).0 ≡ r
    → (m : ℕ) → m < length t.operations → H (moved_first t x j o (Poised m)))
    × ((transition t o x.first).0 ≢ r → H (moved_first t x j o Lost))
SomeMove t H x j Lost = ⊥

-- from each position with the property the adversary can move to one with the property again
abbrev pub IsTrap : TypeTable → ℕ → (Position → Type 0) → Type 0
IsTrap t n H = (x : Position) → H x → (j : ℕ) × (j < n) × SomeMove t H x j (x.status j)

-- each raw choice for n processes has a start in the trap
abbrev pub CatchesAll : TypeTable → ℕ → (Position → Type 0) → Type 0
CatchesAll t n H = (c : RawChoice) → IsRawChoice t n c → (a : ℕ) × (b : ℕ) × (a < n) × (b < n)
    × (slice_get c.marks a ≡ Some A) × (slice_get c.marks b ≡ Some B) × H (start t c a b)
