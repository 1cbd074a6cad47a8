-- The next process of an order.
use Rattle.std.specs.Prelude.{◌≡◌, ℕ, ◌+◌, ◌-◌, ◌^◌, ◌<◌, ◌≤◌, ◌⊎◌, List, [], ◌∷◌, length}
use Rattle.std.specs.Prelude.{slice_index_or, All, IsBitSet, Option, None}
use Rattle.std.specs.List.{AllPairs, Any, HoldsAt}
use Rattle.std.specs.Int.Bits.{bit_or}
use Rattle.cn_table.specs.declared.limits.TheConstants.{MOST_RESPONSES, MOST_STATES}
use Rattle.cn_choice.specs.declared.team.Team.{Team}
use Rattle.cn_choice.specs.Moves.{answer_of, next_of}
use Rattle.cn_choice.specs.TeamOrders.{team_from, team_to}
use Rattle.cn_stocks.specs.Pairs.{Has}
use Rattle.cn_stocks.specs.declared.pair_sets.PairSet.{PairSet}
use Rattle.cn_collisions.specs.declared.asked.Asked.{Asked}
use Rattle.cn_collisions.specs.declared.endings.Ending.{Ending}
use Rattle.cn_collisions.specs.declared.view.Prefix.{Prefix}
use Rattle.cn_collisions.specs.declared.view.View.{View}
use Rattle.cn_collisions.specs.declared.ways.Step.{Step}
use Rattle.cn_collisions.specs.Views.{IsBegun, IsPrefix, moves_left}
use Rattle.cn_collisions.specs.Ways.{IsCovered, IsFirstWay, LeadsNowhere, NoWay, WayTo}
use Rattle.cn_collisions.specs.Ways.{seen_after}

-- some way to go on with exactly so many processes leads into the set
abbrev pub LeadsOnward : View → PairSet → ℕ → Prefix → Type 0
LeadsOnward v set left at =
    (r : ℕ) × ((q : ℕ) × WayTo v.sets.now.table.now v.raw.now v.process left at.used at.state.0
    at.seen r q × Has set r q)

-- the process has not moved, and this is the prefix after its move
pub record IsStep (v : View) (at : Prefix) (s : Step) : Type 0 where
  pub inside : s.process < length v.raw.now.operations
  pub free : ¬ IsBitSet at.used s.process
  pub used : s.prefix.used ≡ bit_or at.used (2 ^ s.process)
  pub state : s.prefix.state.0 ≡ next_of v.sets.now.table.now v.raw.now s.process at.state.0
  pub seen : s.prefix.seen ≡ seen_after v.process s.process
      (answer_of v.sets.now.table.now v.raw.now s.process at.state.0) at.seen
  pub prefix : IsPrefix v s.prefix
  pub begun : IsBegun v s.prefix
  pub room : moves_left s.prefix + 1 ≡ moves_left at

-- the process of the step is the first one within the bounds that leads on
pub record IsFirstStep (v : View) (set : PairSet) (left low high : ℕ) (at : Prefix)
    (s : Step) : Type 0 where
  pub step : IsStep v at s
  pub from : low ≤ s.process
  pub upto : s.process < high
  pub earlier : (p : ℕ) → low ≤ p → p < s.process → LeadsNowhere v.sets.now.table.now v.raw.now
      v.process set left low high at.used at.state.0 at.seen p
  pub leads : LeadsOnward v set (left - 1) s.prefix

-- the steps of the processes from low on and below high that need to move next, in order
pub record AreOpenings (v : View) (low high : ℕ) (at : Prefix) (steps : List Step) : Type 0 where
  pub rising : AllPairs (λ x y. x.process < y.process) steps
  pub each : All (λ s. (low ≤ s.process) × (s.process < high) × IsStep v at s) steps
  pub needed : All (λ s. ¬ IsCovered v.raw.now v.process low at.used s.process) steps
  pub every : (p : ℕ) → low ≤ p → p < high
      → Any (λ s. s.process ≡ p) steps ⊎ IsCovered v.raw.now v.process low at.used p

-- so many processes can move after the step
pub record HasMovesLeft (v : View) (left : ℕ) (s : Step) : Type 0 where
  pub prefix : IsPrefix v s.prefix
  pub begun : IsBegun v s.prefix
  pub room : left ≤ moves_left s.prefix

-- the first of the steps that leads on
pub record IsFirstOnward (v : View) (set : PairSet) (left : ℕ) (steps : List Step)
    (s : Step) : Type 0 where
  pub place : ℕ
  pub inside : place < length steps
  pub there : HoldsAt (λ x. x ≡ s) steps place
  pub earlier : (k : ℕ) (d : Step) → k < place
      → ¬ LeadsOnward v set left (slice_index_or steps k d).prefix
  pub leads : LeadsOnward v set left s.prefix

-- the steps of the processes of the team that need to move first, in order
abbrev pub AreOpeningsOf : Asked → Team → List Step → Type 0
AreOpeningsOf a team steps =
    AreOpenings a.view (team_from a.choice.now team) (team_to a.choice.now team) a.start steps

-- no way of one process, which is within the bounds, leads into the set
abbrev pub NoEnding : View → PairSet → ℕ → ℕ → ℕ → ℕ → Option ℕ → Type 0
NoEnding v set low high used state seen =
    NoWay v.sets.now.table.now v.raw.now v.process set 1 low high used state seen

-- the process is the first way of one process into the set
pub record IsFirstEnding (v : View) (set : PairSet) (low high used state : ℕ) (seen : Option ℕ)
    (e : Ending) : Type 0 where
  pub way : IsFirstWay v.sets.now.table.now v.raw.now v.process set 1 low high used state seen
      (e.process ∷ []) (e.response, e.state)
  pub answer : e.response < MOST_RESPONSES
  pub known : e.state < MOST_STATES

-- what the process in question has seen after a move of process p
abbrev pub seen_behind : View → Prefix → ℕ → Option ℕ
seen_behind v at p =
    seen_after v.process p (answer_of v.sets.now.table.now v.raw.now p at.state.0) None

-- the same behind process p, which moves first
abbrev pub NoEndingBehind : View → PairSet → Prefix → ℕ → Type 0
NoEndingBehind v set at p = NoEnding v set 0 (length v.raw.now.operations) (bit_or at.used (2 ^ p))
    (next_of v.sets.now.table.now v.raw.now p at.state.0) (seen_behind v at p)

abbrev pub IsFirstBehind : View → PairSet → Prefix → ℕ → Ending → Type 0
IsFirstBehind v set at p =
    IsFirstEnding v set 0 (length v.raw.now.operations) (bit_or at.used (2 ^ p))
    (next_of v.sets.now.table.now v.raw.now p at.state.0) (seen_behind v at p)
