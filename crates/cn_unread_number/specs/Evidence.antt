-- What the evidence for bounds shows. New here.
use Rattle.std.specs.Prelude.{◌≡◌, ◌⊎◌, ℕ, ◌+◌, ◌≤◌, ◌<◌, List, IfSome}
use Rattle.cn_table.specs.TypeTable.{TypeTable}
use Rattle.cn_choice.specs.Canonical.{Choice, raw_choice_of}
use Rattle.cn_choice.specs.Discerning.{IsDiscerning}
use Rattle.cn_choice.specs.RawChoices.{IsRawChoice}
use Rattle.cn_choice.specs.declared.limits.TheConstants.{MOST_PROCESSES}
use Rattle.cn_further.specs.FurtherNodes.{TellsFirst}
use Rattle.cn_game.specs.TrapLists.{IsTrapList}
use Rattle.cn_search.specs.Numbers.{HasNumber}
use Rattle.cn_search.specs.declared.exact.ConsensusNumber.{ConsensusNumber}
use Rattle.cn_signs.specs.SignChoices.{HasSigns}
use Rattle.cn_unread.specs.Collects.{AreLooks}
use Rattle.cn_unread.specs.Telling.{LooksTellStates, ResponsesTellStates}
use Rattle.cn_unread_number.specs.Bounds.{as_bounds, most_with_reads}
use Rattle.cn_unread_number.specs.declared.bounds.NumberBounds.{NumberBounds}
use Rattle.cn_unread_number.specs.declared.bounds.NumberBounds.TheVariants.{AtLeast, Between, Exactly}
use Rattle.cn_unread_number.specs.declared.bounds.NumberBounds.TheVariants.{Infinite}
use Rattle.cn_unread_number.specs.declared.evidence.LeastEvidence.{LeastEvidence}
use Rattle.cn_unread_number.specs.declared.evidence.LeastEvidence.TheVariants as least
use Rattle.cn_unread_number.specs.declared.evidence.MostEvidence.{MostEvidence}
use Rattle.cn_unread_number.specs.declared.evidence.MostEvidence.TheVariants as most
use Rattle.cn_unread_number.specs.declared.search.TheConstants.{MOST_CHOICES}
use Rattle.cn_unread_number.specs.declared.telling.Telling.{Telling}
use Rattle.cn_unread_number.specs.declared.telling.Telling.TheVariants as by
use Rattle.cn_views.specs.VisibleChoices.{IsFirstVisible, SomeLooksTell}

-- silent operations tell the states
abbrev pub SomeLooksTellStates : TypeTable → Type 0
SomeLooksTellStates t = (looks : List ℕ) × AreLooks t looks × LooksTellStates t looks

-- the type tells its states in this way
abbrev pub TellsBy : TypeTable → Telling → Type 0
TellsBy t by.Responses = ResponsesTellStates t
TellsBy t by.Looks = SomeLooksTellStates t

-- the type tells its states
abbrev pub TellsItsStates : TypeTable → Type 0
TellsItsStates t = ResponsesTellStates t ⊎ SomeLooksTellStates t

-- n processes can agree: one can alone; the type tells its states, and n can with reads; n see who was
-- first in this choice, or by these further operations; or these are signs, for any n
abbrev pub ShowsLeast : TypeTable → LeastEvidence → ℕ → Type 0
ShowsLeast t least.Alone n = n ≡ 1
ShowsLeast t (least.Telling how) n = TellsBy t how × (2 ≤ n → IsDiscerning t n)
ShowsLeast t (least.Visible c) n =
    IsRawChoice t n (raw_choice_of c) × SomeLooksTell t (raw_choice_of c)
ShowsLeast t (least.Further further) n = TellsFirst t n further.choice further.follow_ups.items
ShowsLeast t (least.Signs signs) n = HasSigns t signs

-- no more than n processes can agree: no more can with reads; or this is a trap for one more
abbrev pub ShowsMost : TypeTable → MostEvidence → ℕ → Type 0
ShowsMost t most.Open n = ⊥
ShowsMost t most.WithReads n = (m : ℕ) → n < m → ¬ IsDiscerning t m
ShowsMost t (most.Trap trap) n = IsTrapList t (n + 1) trap.turns.items

-- the evidence shows its bounds
abbrev pub AreShown : TypeTable → LeastEvidence → MostEvidence → NumberBounds → Type 0
AreShown t low high (Exactly n) = (1 ≤ n) × ShowsLeast t low n × ShowsMost t high n
AreShown t low high Infinite = (n : ℕ) → 2 ≤ n → ShowsLeast t low n
AreShown t low high (Between n m) =
    (1 ≤ n) × ShowsLeast t low n × ShowsMost t high m × (n < m)
AreShown t low high (AtLeast n) = (1 ≤ n) × ShowsLeast t low n × (high ≡ most.Open)

-- the bounds leave nothing above n
abbrev pub AreAtMost : NumberBounds → ℕ → Type 0
AreAtMost (Exactly m) n = m ≤ n
AreAtMost Infinite n = ⊥
AreAtMost (Between least m) n = m ≤ n
AreAtMost (AtLeast least) n = ⊥

-- the bounds leave nothing below n
abbrev pub AreAtLeast : NumberBounds → ℕ → Type 0
AreAtLeast (Exactly m) n = n ≤ m
AreAtLeast Infinite n = Unit {0}
AreAtLeast (Between least m) n = n ≤ least
AreAtLeast (AtLeast least) n = n ≤ least

-- for each number of processes from 2 to n, one of the first choices is visible
abbrev pub IsVisibleUpTo : TypeTable → ℕ → Type 0
IsVisibleUpTo t n = (m : ℕ) → 2 ≤ m → m ≤ n → (c : Choice) × IsFirstVisible t m MOST_CHOICES c

-- the bounds leave nothing above the number with reads, and nothing below a number up to which choices
-- are visible; and they are the number with reads where the type tells its states
pub record AreCloseTo (t : TypeTable) (bounds : NumberBounds) (number : ConsensusNumber)
    : Type 0 where
  pub number_with_reads : HasNumber t number
  pub within : IfSome (most_with_reads number) (AreAtMost bounds)
  pub visible : (n : ℕ) → n ≤ MOST_PROCESSES → IsVisibleUpTo t n → AreAtLeast bounds n
  pub told : TellsItsStates t → bounds ≡ as_bounds number
