-- The number of a type up to a limit, with the evidence for it.
use Rattle.std.specs.Prelude.{◌≡◌, ℕ, ◌+◌, List, [], ◌∷◌, ◌++◌, Option, Some, None, MatchOption}
use Rattle.std.specs.Prelude.{IsSomeAnd, All, nat_lt, if◌then◌else◌}
use Rattle.std.specs.List.{AllZip}
use Rattle.cn_table.specs.TypeTable.{TypeTable}
use Rattle.cn_choice.specs.Canonical.{Choice, raw_choice_of}
use Rattle.cn_choice.specs.Collisions.{Collision, IsRecordedCollision}
use Rattle.cn_choice.specs.Discerning.{IsNumberUpTo, IsWitness}
use Rattle.cn_choice.specs.Live.{live_choices}
use Rattle.cn_choice.specs.RawChoices.{RawChoice}
use Rattle.cn_finding.specs.Finding.{Finding}

-- no choice of the list has the property
abbrev pub NoneIs : (RawChoice → Type 0) → List Choice → Type 0
NoneIs P choices = All (λ c. ¬ P (raw_choice_of c)) choices

-- the choice has the property and stands in the list, and none that stands before it has the
-- property
pub record IsFirst (P : RawChoice → Type 0) (choices : List Choice) (w : Choice) : Type 0 where
  pub before : List Choice
  pub after : List Choice
  pub listed : choices ≡ before ++ w ∷ after
  pub witness : P (raw_choice_of w)
  pub earlier : NoneIs P before

-- the first choice of the list that has the property, if there is one
abbrev pub IsFirstAmong : (RawChoice → Type 0) → List Choice → Option Choice → Type 0
IsFirstAmong P choices found = MatchOption found (NoneIs P choices) (IsFirst P choices)

-- no choice of the list is a witness
abbrev pub NoneIsWitness : TypeTable → List Choice → Type 0
NoneIsWitness t choices = NoneIs (IsWitness t) choices

-- the choice is a witness that stands in the list, and none that stands before it is one
abbrev pub IsFirstWitness : TypeTable → List Choice → Choice → Type 0
IsFirstWitness t choices w = IsFirst (IsWitness t) choices w

-- the collision is the recorded one of the choice
abbrev pub IsRecordedFor : TypeTable → Choice → Collision → Type 0
IsRecordedFor t c x =
    (x.choice ≡ c) × IsRecordedCollision t (raw_choice_of c) x.process x.alpha x.beta

-- the recorded collision of each choice of the list, in their order
abbrev pub AreRecordedFor : TypeTable → List Choice → List Collision → Type 0
AreRecordedFor t choices collisions = AllZip (IsRecordedFor t) choices collisions

-- the choices that have to be refuted: the live ones for one process more than the number, for two
-- if there is no number, and none if the number is the limit
abbrev pub choices_to_refute : TypeTable → ℕ → Option ℕ → List Choice
choices_to_refute t limit None = live_choices t 2
choices_to_refute t limit (Some n) = if nat_lt n limit then live_choices t (n + 1) else []

-- the number, the first live canonical witness at it (none if there is no number), and the recorded
-- collision of each choice that has to be refuted, in their order
pub record IsFindingFor (t : TypeTable) (limit : ℕ) (f : Finding) : Type 0 where
  pub same_limit : f.limit ≡ limit
  pub number : IsNumberUpTo t limit f.number
  pub witness : MatchOption f.number (f.witness ≡ None)
      (λ n. IsSomeAnd f.witness (IsFirstWitness t (live_choices t n)))
  pub collisions : AreRecordedFor t (choices_to_refute t limit f.number) f.collisions
