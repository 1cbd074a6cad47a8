-- What is shown of a number step by step.
use Rattle.std.specs.Prelude.{◌≡◌, ℕ, ◌≤◌, Option, None, Some, IfSome}
use Rattle.cn_table.specs.TypeTable.{TypeTable}
use Rattle.cn_further.specs.FurtherNodes.{TellsFirst}
use Rattle.cn_game.specs.TrapLists.{IsTrapList}
use Rattle.cn_unread_number.specs.Evidence.{ShowsLeast, ShowsMost}
use Rattle.cn_unread_number.specs.declared.evidence.MostEvidence.{MostEvidence}
use Rattle.cn_unread_number.specs.declared.evidence.MostEvidence.TheVariants as most
use Rattle.cn_unread_number.specs.declared.search.Shown.{Shown}
use Rattle.cn_unread_number.specs.declared.search.Step.{Step}
use Rattle.cn_unread_number.specs.declared.search.Step.TheVariants.{Bounded, Open, Raised}

-- a trap for n; or further operations by which n tell who was first; or nothing is known
abbrev pub IsStepFor : TypeTable → ℕ → Step → Type 0
IsStepFor t n (Bounded trap) = IsTrapList t n trap.turns.items
IsStepFor t n (Raised further) = TellsFirst t n further.choice further.follow_ups.items
IsStepFor t n Open = Unit {0}

-- the greatest number, if there is one, and why it is not more
abbrev pub MostIsShown : TypeTable → MostEvidence → Option ℕ → Type 0
MostIsShown t why None = why ≡ most.Open
MostIsShown t why (Some n) = ShowsMost t why n

-- each bound has its evidence, and the least number is at most the greatest
pub record IsShown (t : TypeTable) (shown : Shown) : Type 0 where
  pub one : 1 ≤ shown.least
  pub by : ShowsLeast t shown.by shown.least
  pub why : MostIsShown t shown.why shown.most
  pub ordered : IfSome shown.most (λ n. shown.least ≤ n)

-- there is a greatest number, and it is at most n
abbrev pub IsWithin : Option ℕ → ℕ → Type 0
IsWithin None n = ⊥
IsWithin (Some m) n = m ≤ n
