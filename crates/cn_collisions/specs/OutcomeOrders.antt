-- The orders that give a process a pair.
use Rattle.std.specs.Prelude.{◌≡◌, ℕ, List, length, Some}
use Rattle.cn_choice.specs.declared.team.Team.{Team}
use Rattle.cn_table.specs.TypeTable.{TypeTable}
use Rattle.cn_choice.specs.RawChoices.{RawChoice}
use Rattle.cn_choice.specs.Orders.{ComesBefore}
use Rattle.cn_choice.specs.OutcomeSets.{BeginsIn, pair_of}
use Rattle.cn_stocks.specs.declared.pair_sets.PairSet.{PairSet}
use Rattle.cn_stocks.specs.Pairs.{Has}
use Rattle.cn_choice.specs.Orders.{IsOrder}

-- the order begins in the team and gives process j the pair
abbrev pub LeadsTo : TypeTable → RawChoice → Team → ℕ → ℕ × ℕ → List ℕ → Type 0
LeadsTo t c team j pair order = BeginsIn c team order × (pair_of t c order j ≡ Some pair)

-- the order begins in the team and gives process j a pair of the set
abbrev pub LeadsInto : TypeTable → RawChoice → Team → ℕ → PairSet → List ℕ → Type 0
LeadsInto t c team j set order =
    (pair : ℕ × ℕ) × LeadsTo t c team j pair order × Has set pair.0 pair.1

-- no order that begins in the team gives process j a pair of the set
abbrev pub NoneInto : TypeTable → RawChoice → Team → ℕ → PairSet → Type 0
NoneInto t c team j set = (order : List ℕ) → IsOrder (length c.operations) order
    → ¬ LeadsInto t c team j set order

-- no such order with this many processes
abbrev pub NoneOfLength : TypeTable → RawChoice → Team → ℕ → PairSet → ℕ → Type 0
NoneOfLength t c team j set k = (order : List ℕ) → IsOrder (length c.operations) order
    → length order ≡ k → ¬ LeadsInto t c team j set order

-- the first order, in list order, that begins in the team and gives process j a pair of the set,
-- and this pair
pub record IsFirstInto (t : TypeTable) (c : RawChoice) (team : Team) (j : ℕ) (set : PairSet)
    (order : List ℕ) (pair : ℕ × ℕ) : Type 0 where
  pub ordered : IsOrder (length c.operations) order
  pub leads : LeadsTo t c team j pair order
  pub has : Has set pair.0 pair.1
  pub earlier : (x : List ℕ) → IsOrder (length c.operations) x → ComesBefore x order
      → ¬ LeadsInto t c team j set x

-- the first order, in list order, that begins in the team and gives process j the pair
pub record IsFirstOfPair (t : TypeTable) (c : RawChoice) (team : Team) (j : ℕ) (pair : ℕ × ℕ)
    (order : List ℕ) : Type 0 where
  pub ordered : IsOrder (length c.operations) order
  pub leads : LeadsTo t c team j pair order
  pub earlier : (x : List ℕ) → IsOrder (length c.operations) x → ComesBefore x order
      → ¬ LeadsTo t c team j pair x
