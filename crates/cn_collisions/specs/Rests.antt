-- The operations of the processes that have not moved.
use Rattle.std.specs.Prelude.{◌≢◌, ℕ, ◌<◌, ◌↔◌, List, length, nat_eq, Contains, IsBitSet}
use Rattle.std.specs.List.{IsDistinct}
use Rattle.cn_choice.specs.OutcomeSets.{operations_of}
use Rattle.cn_choice.specs.RawChoices.{RawChoice}
use Rattle.cn_stocks.specs.Words.{HaveSame}

-- the stock has the operations of the processes but j that have not moved
pub record IsRest (c : RawChoice) (j used : ℕ) (stock : List ℕ) : Type 0 where
  pub free : List ℕ
  pub distinct : IsDistinct nat_eq free
  pub are : (p : ℕ) → Contains free p ↔ ((p < length c.operations) × ¬ IsBitSet used p × (p ≢ j))
  pub same : HaveSame (operations_of c free) stock
