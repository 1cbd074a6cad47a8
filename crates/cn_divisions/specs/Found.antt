-- Divisions that a search has found.
use Rattle.std.specs.Prelude.{ℕ, ◌≡◌, ◌⊎◌, ◌++◌, List, [], ◌∷◌, Option, Some, length}
use Rattle.std.specs.Prelude.{slice_get}
use Rattle.cn_table.specs.TypeTable.{TypeTable}
use Rattle.cn_meetings.specs.Meeting.{Meeting, Sight}
use Rattle.cn_stocks.specs.Words.{HaveSame}
use Rattle.cn_divisions.specs.declared.divisions.Division.{Division}
use Rattle.cn_divisions.specs.Divisions.{AreParted, IsFinestOf, IsMeetingOf, operations_of, teams_of}
use Rattle.cn_divisions.specs.Sizes.{AreSizes}

-- each meeting that starts so and has these operations has no finest division into two teams or
-- more, or one with the sizes of what is found
abbrev pub HasDivisionOf : TypeTable → Sight → ℕ → List ℕ → Option Division → Type 0
HasDivisionOf t sight start operations found =
    (M : Meeting) (team : ℕ → ℕ) → IsMeetingOf t sight (length operations) M → M.start ≡ start
    → HaveSame operations (operations_of M (length operations))
    → IsFinestOf t M (length operations) team → AreParted (length operations) team
    → (d : Division) × (found ≡ Some d)
    × AreSizes (teams_of team (length operations)) d.sizes.items

-- one of the divisions has these sizes
abbrev pub HaveSizes : List Division → List ℕ → Type 0
HaveSizes divisions sizes =
    (i : ℕ) × (d : Division) × (slice_get divisions i ≡ Some d) × (d.sizes.items ≡ sizes)

-- the list is as before, or the division, whose sizes were not there, stands behind it
abbrev pub IsAdded : List Division → Division → List Division → Type 0
IsAdded old d new = (new ≡ old) ⊎ ((new ≡ old ++ d ∷ []) × ¬ HaveSizes old d.sizes.items)

-- nothing of the old list is lost
abbrev pub IsExtended : List Division → List Division → Type 0
IsExtended old new = (more : List Division) × (new ≡ old ++ more)
