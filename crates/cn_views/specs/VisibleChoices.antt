-- Choices whose teams silent operations tell apart.
use Rattle.std.specs.Prelude.{◌≡◌, ℕ, ◌<◌, List, ◌∷◌, ◌++◌, length, take, All}
use Rattle.cn_table.specs.TypeTable.{TypeTable}
use Rattle.cn_choice.specs.Canonical.{Choice, raw_choice_of}
use Rattle.cn_choice.specs.Live.{live_choices}
use Rattle.cn_choice.specs.OutcomeSets.{InOutcomeSet}
use Rattle.cn_choice.specs.RawChoices.{RawChoice}
use Rattle.cn_choice.specs.declared.team.Team.TheVariants.{A, B}
use Rattle.cn_outcomes.specs.PairSets.{Has}
use Rattle.cn_unread.specs.Collects.{AreLooks, IsVisible, LookAlike}

-- some silent operations tell the teams of the choice apart
abbrev pub SomeLooksTell : TypeTable → RawChoice → Type 0
SomeLooksTell t c = (looks : List ℕ) × AreLooks t looks × IsVisible t looks c

-- the process does not have the same response in orders that begin in different teams, with last
-- states that look alike
abbrev pub IsToldTo : TypeTable → List ℕ → RawChoice → ℕ → Type 0
IsToldTo t looks c j = (r p q : ℕ) → InOutcomeSet t c A j (r, p) → InOutcomeSet t c B j (r, q)
    → LookAlike t looks p q → ⊥

-- the set has the response with a state that looks like p
abbrev pub IsAlsoIn : TypeTable → List ℕ → List ℕ → ℕ → ℕ → Type 0
IsAlsoIn t looks set r p =
    (q : ℕ) × (q < length t.states) × Has set r q × LookAlike t looks p q

-- the first set has some response with p, and the second the same with a state that looks alike
abbrev pub MeetAt : TypeTable → List ℕ → List ℕ → List ℕ → ℕ → Type 0
MeetAt t looks set other p =
    (r : ℕ) × (r < length t.responses) × Has set r p × IsAlsoIn t looks other r p

-- the sets have pairs with one response and with states that look alike
abbrev pub MeetAlike : TypeTable → List ℕ → List ℕ → List ℕ → Type 0
MeetAlike t looks set other = (p : ℕ) × (p < length t.states) × MeetAt t looks set other p

-- the first of the live canonical choices for n processes whose teams silent operations tell apart,
-- with fewer than so many before it
pub record IsFirstVisible (t : TypeTable) (n most : ℕ) (c : Choice) : Type 0 where
  pub before : List Choice
  pub behind : List Choice
  pub listed : live_choices t n ≡ before ++ c ∷ behind
  pub few : length before < most
  pub none_before : All (λ d. ¬ SomeLooksTell t (raw_choice_of d)) before
  pub told : SomeLooksTell t (raw_choice_of c)

-- none of the first so many of them
abbrev pub NoneVisible : TypeTable → ℕ → ℕ → Type 0
NoneVisible t n most =
    All (λ c. ¬ SomeLooksTell t (raw_choice_of c)) (take most (live_choices t n))
