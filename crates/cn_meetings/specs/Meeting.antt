-- Meetings: what processes do at one object, and what they see of it.
-- Source: Ruppert, Determining consensus numbers, 2000: processes that apply an operation each and
-- read the state. Other sights are new here.
use Rattle.std.specs.Prelude.{ℕ, Bool, true, false}
use Rattle.cn_table.specs.TypeTable.{TypeTable, transition}
use Rattle.cn_unread.specs.Views.{IsSilent}

-- how a process looks at the object behind its operation: it reads the state, it does not look, or
-- it applies a further operation and gets the response
pub data Sight : Type 0 where
  State : Sight
  Nothing : Sight
  Response : ℕ → Sight

-- what it sees of a state
abbrev pub sees : TypeTable → Sight → ℕ → ℕ
sees t State q = q
sees t Nothing q = 0
sees t (Response o) q = (transition t o q).0

abbrev pub looks : Sight → Bool
looks State = true
looks Nothing = false
looks (Response o) = true

-- a further operation has to be silent
abbrev pub IsSightOf : TypeTable → Sight → Type 0
IsSightOf t State = Unit {0}
IsSightOf t Nothing = Unit {0}
IsSightOf t (Response o) = IsSilent t o

-- the state in which the object starts; for each process its operation and its sight
pub record Meeting : Type 0 where
  pub start : ℕ
  pub operation : ℕ → ℕ
  pub sight : ℕ → Sight

-- the response to process p in this state, and the next state
abbrev pub act : TypeTable → Meeting → ℕ → ℕ → ℕ × ℕ
act t M p q = transition t (M.operation p) q

-- what process p sees of this state
abbrev pub see : TypeTable → Meeting → ℕ → ℕ → ℕ
see t M p q = sees t (M.sight p) q
