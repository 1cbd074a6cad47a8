-- What the processes of a node are shown, team by team, and lists of it.
use Rattle.std.specs.Prelude.{ℕ, zero, suc, ◌≡◌, ◌↔◌, ◌⊎◌, ◌+◌, ◌<◌, ◌≤◌, List, [], ◌∷◌, length, AllPairs, Contains, slice_index}
use Rattle.std.specs.Prelude.{slice_index_or, Option, Some, None}
use Rattle.cn_table.specs.TypeTable.{IsTypeTable, TypeTable}
use Rattle.cn_choice.specs.declared.limits.TheConstants.{MOST_PROCESSES}
use Rattle.cn_choice.specs.Canonical.{raw_choice_of}
use Rattle.cn_choice.specs.OutcomeSets.{InOutcomeSet}
use Rattle.cn_choice.specs.declared.team.Team.TheVariants.{A}
use Rattle.std.specs.declared.vec.Vec.{Vec}
use Rattle.cn_outcomes.specs.PairSets.{Has, HaveCommonPair}
use Rattle.cn_meetings.specs.Meeting.{IsSightOf, sees}
use Rattle.cn_meetings.specs.Sights.{sight_of}
use Rattle.cn_tree_plans.specs.Plan.{JudgedBefore, NodeMeeting}
use Rattle.cn_tree_plans.specs.Turned.{role_of, turned}
use Rattle.cn_tree_plans.specs.declared.judged.Judged.{Judged}

-- a meeting of a node, of few processes, with a state, a sight and operations of the type
pub record IsNodeMeeting (t : TypeTable) (m : NodeMeeting) : Type 0 where
  pub table : IsTypeTable t
  pub start : m.start < length t.states
  pub sight : IsSightOf t (sight_of m.sight)
  pub few : length m.operations ≤ MOST_PROCESSES
  pub operations : (k : ℕ) → k < length m.operations
      → slice_index m.operations k < length t.operations

-- the team of the processes from low on and below high shows process k of the node this
abbrev pub Shows : TypeTable → NodeMeeting → ℕ → ℕ → ℕ → ℕ → ℕ → Type 0
Shows t m low high k r saw = (q : ℕ)
    × InOutcomeSet t (raw_choice_of (turned m low high)) A (role_of low high k) (r, q)
    × (sees t (sight_of m.sight) q ≡ saw)

-- the first process of team g, among teams of these sizes
abbrev pub start_of : List ℕ → ℕ → ℕ
start_of [] g = 0
start_of (n ∷ sizes) zero = 0
start_of (n ∷ sizes) (suc g) = n + start_of sizes g

-- team g shows process k this
abbrev pub TeamShows : TypeTable → NodeMeeting → List ℕ → ℕ → ℕ → ℕ → ℕ → Type 0
TeamShows t m sizes k g r saw =
    Shows t m (start_of sizes g) (start_of sizes g + slice_index sizes g) k r saw

-- the sets of what each of the first teams shows process k
pub record AreShown (t : TypeTable) (m : NodeMeeting) (sizes : List ℕ) (k teams : ℕ)
    (sets : List (List ℕ)) : Type 0 where
  pub count : length sets ≡ teams
  pub exact : (g r saw : ℕ) → g < teams
      → Has (slice_index_or sets g []) r saw ↔ TeamShows t m sizes k g r saw

-- two sets have a common pair
abbrev pub SomeMeet : List (List ℕ) → Type 0
SomeMeet sets = (g : ℕ) × (h : ℕ) × (g < h) × (h < length sets)
    × HaveCommonPair (slice_index_or sets g []) (slice_index_or sets h [])

-- an entry before this response and this that is seen
abbrev pub ComesBefore : Judged → ℕ → ℕ → Type 0
ComesBefore x r saw = (x.response.0 < r) ⊎ ((x.response.0 ≡ r) × (x.saw < saw))

-- the set of the team of the entry has its pair
abbrev pub IsOf : List (List ℕ) → Judged → Type 0
IsOf sets x = (x.team < length sets)
    × Has (slice_index_or sets x.team []) x.response.0 x.saw

-- the entries of these sets before a response and what is seen, each once and in order
pub record AreListed (sets : List (List ℕ)) (limit r saw : ℕ) (judged : List Judged) : Type 0 where
  pub exact : (x : Judged) → Contains judged x
      ↔ (IsOf sets x × (x.saw < limit) × ComesBefore x r saw)
  pub in_order : AllPairs JudgedBefore judged

-- two teams show process k the same
pub record SomeShowSame (t : TypeTable) (m : NodeMeeting) (sizes : List ℕ) (k : ℕ) : Type 0 where
  pub team : ℕ
  pub other : ℕ
  pub response : ℕ
  pub saw : ℕ
  pub before : team < other
  pub known : other < length sizes
  pub shows : TeamShows t m sizes k team response saw
  pub shows_too : TeamShows t m sizes k other response saw

-- all that the teams show process k, each once and in order
pub record AreEntries (t : TypeTable) (m : NodeMeeting) (sizes : List ℕ) (k : ℕ)
    (judged : List Judged) : Type 0 where
  pub exact : (x : Judged) → Contains judged x
      ↔ ((x.team < length sizes) × TeamShows t m sizes k x.team x.response.0 x.saw)
  pub in_order : AllPairs JudgedBefore judged
  pub apart : ¬ SomeShowSame t m sizes k

abbrev pub IsJudgedBy : {M : Type 0} → TypeTable → NodeMeeting → List ℕ → ℕ
    → Option (Vec Judged M) → Type 0
IsJudgedBy t m sizes k None = SomeShowSame t m sizes k
IsJudgedBy t m sizes k (Some judged) = AreEntries t m sizes k judged.items
