-- A process of a choice, and the beginnings of orders.
use Rattle.std.specs.Prelude.{◌≡◌, ℕ, ◌+◌, ◌<◌, ◌≤◌, List, length, Option, Some, None, IfSome}
use Rattle.std.specs.Prelude.{IsBitSet, MatchOption}
use Rattle.cn_table.specs.declared.limits.TheConstants.{MOST_RESPONSES}
use Rattle.cn_choice.specs.Canonical.{raw_choice_of}
use Rattle.cn_choice.specs.RawChoices.{IsRawChoice}
use Rattle.cn_stocks.specs.Words.{HaveSame}
use Rattle.cn_collisions.specs.declared.asked.Asked.{Asked}
use Rattle.cn_collisions.specs.declared.examination.Subject.{Subject}
use Rattle.cn_collisions.specs.declared.view.Prefix.{Prefix}
use Rattle.cn_collisions.specs.declared.view.View.{View}
use Rattle.cn_collisions.specs.Levels.{AreSomeSets}
use Rattle.cn_collisions.specs.Rests.{IsRest}
use Rattle.cn_collisions.specs.Stands.{StandsAt}

-- the sets are those for the choice, which is one of the table, and the process is one of it
pub record IsView (v : View) : Type 0 where
  pub sets_are : AreSomeSets v.sets.now
  pub number : v.sets.now.n ≡ length v.raw.now.operations
  pub fits : IsRawChoice v.sets.now.table.now (length v.raw.now.operations) v.raw.now
  pub inside : v.process < length v.raw.now.operations

-- the most processes that a way to go on can have
abbrev pub room_of : Option ℕ → ℕ → ℕ
room_of None size = size + 1
room_of (Some response) size = size

abbrev pub moves_left : Prefix → ℕ
moves_left p = room_of p.seen p.size

-- the stock is that of the other processes that have not moved, and it is told whether the process
-- has moved
pub record IsPrefix (v : View) (p : Prefix) : Type 0 where
  pub stock : List ℕ
  pub stands : StandsAt v.sets.now p.size p.place stock
  pub rest : IsRest v.raw.now v.process p.used stock
  pub few : p.size + 1 ≤ length v.raw.now.operations
  pub told : MatchOption p.seen (¬ IsBitSet p.used v.process) (λ r. IsBitSet p.used v.process)
  pub known : p.state.0 < length v.sets.now.table.now.states
  pub answer : IfSome p.seen (λ r. r < MOST_RESPONSES)

-- some process has moved
abbrev pub IsBegun : View → Prefix → Type 0
IsBegun v p = moves_left p + 1 ≤ length v.raw.now.operations

-- no process has moved
pub record IsStart (v : View) (p : Prefix) : Type 0 where
  pub prefix : IsPrefix v p
  pub used : p.used ≡ 0
  pub seen : p.seen ≡ None
  pub state : p.state.0 ≡ v.raw.now.state
  pub size : p.size + 1 ≡ length v.raw.now.operations

-- the raw choice is that of the choice, and no process has moved
pub record IsAsked (a : Asked) : Type 0 where
  pub view : IsView a.view
  pub same : a.view.raw.now ≡ raw_choice_of a.choice.now
  pub start : IsStart a.view a.start

-- the raw choice is that of the choice, and the stock of its operations stands at the place
pub record IsSubject (s : Subject) : Type 0 where
  pub sets_are : AreSomeSets s.sets.now
  pub number : s.sets.now.n ≡ length s.raw.now.operations
  pub fits : IsRawChoice s.sets.now.table.now (length s.raw.now.operations) s.raw.now
  pub same : s.raw.now ≡ raw_choice_of s.choice.now
  pub stock : List ℕ
  pub stands : StandsAt s.sets.now s.sets.now.n s.place stock
  pub all : HaveSame s.raw.now.operations stock
