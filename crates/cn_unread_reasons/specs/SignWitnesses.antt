-- Signs, as they are told.
use Rattle.std.specs.Prelude.{◌≡◌, ◌≢◌, ◌<◌, ◌⊎◌, ◌↔◌, ℕ, List, AllPairs, Contains, IsBitSet, take}
use Rattle.cn_table.specs.TypeTable.{TypeTable}
use Rattle.cn_choice.specs.Renumbering.{other}
use Rattle.cn_signs.specs.SignChecks.{Answers}
use Rattle.cn_signs.specs.SignChoices.{HasSigns}
use Rattle.cn_signs.specs.StateSets.{unsigned}
use Rattle.cn_signs.specs.declared.sign_choice.SignChoice.{SignChoice}
use Rattle.cn_unread.specs.Signs.{StatesOf}
use Rattle.cn_unread_reasons.specs.declared.sight.Answer.{Answer}
use Rattle.cn_unread_reasons.specs.declared.signs.SignWitness.{SignWitness}

-- the operation gets the response in some state of the first set, and in none of the second
abbrev pub ComesInOne : TypeTable → ℕ → ℕ → Answer → Type 0
ComesInOne t own others a = Answers t a.operation.0 (IsBitSet own) a.response.0
    × ¬ Answers t a.operation.0 (IsBitSet others) a.response.0

-- a sign: the response to a further operation comes where the team was first, and never where the
-- other one was
pub record IsSignOf (t : TypeTable) (c : SignChoice) (a : Answer) : Type 0 where
  pub operation : Contains c.further.items a.operation.0
  pub comes : Answers t a.operation.0 (StatesOf t (unsigned c) c.side) a.response.0
  pub never : ¬ Answers t a.operation.0 (StatesOf t (unsigned c) (other c.side)) a.response.0

-- the first of the numbers has a place in the list before all places of the second
abbrev pub ComesFirst : List ℕ → ℕ → ℕ → Type 0
ComesFirst list o p = (k : ℕ) × Contains (take k list) o × ¬ Contains (take k list) p

-- the order of answers: by the first place of the operation in the list, and then by the number of
-- the response
abbrev pub IsBefore : List ℕ → Answer → Answer → Type 0
IsBefore list x y = ComesFirst list x.operation.0 y.operation.0
    ⊎ ((x.operation ≡ y.operation) × (x.response.0 < y.response.0))

-- a choice that has signs, and all of them in order, each once
pub record IsSignWitness (t : TypeTable) (s : SignWitness) : Type 0 where
  pub choice : HasSigns t s.choice
  pub signs : (a : Answer) → Contains s.signs.items a ↔ IsSignOf t s.choice a
  pub order : AllPairs (IsBefore s.choice.further.items) s.signs.items
  pub once : AllPairs (λ x y. x ≢ y) s.signs.items
