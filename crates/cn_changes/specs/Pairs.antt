-- Two changes at once.
use Rattle.std.specs.Prelude.{◌≡◌, ◌↔◌, ◌<◌, ◌==◌, ◌&&◌, ◌||◌, Bool, nat_lt, List, [], ◌∷◌, length}
use Rattle.std.specs.Prelude.{flat_map, map, take, All, IsTrue, if◌then◌else◌}
use Rattle.cn_table.specs.TypeTable.{TypeTable}
use Rattle.cn_unread_number.specs.declared.bounds.NumberBounds.{NumberBounds}
use Rattle.cn_changes.specs.Changes.{changes_of, with_change}
use Rattle.cn_changes.specs.Kinds.{HasNumberOf}
use Rattle.cn_changes.specs.Greatest.{greatest_first}
use Rattle.cn_changes.specs.Less.{is_less}
use Rattle.cn_changes.specs.declared.change.Change.{Change}
use Rattle.cn_changes.specs.declared.greatest.TheConstants.{GREATEST_RANK}
use Rattle.cn_changes.specs.declared.kind.NumberKind.{NumberKind}
use Rattle.cn_changes.specs.declared.pairs.ChangePair.{ChangePair}
use Rattle.cn_changes.specs.declared.pairs.PairNumber.{PairNumber}
use Rattle.cn_changes.specs.declared.pairs.PairNumbers.{PairNumbers}
use Rattle.cn_changes.specs.declared.pairs.TheConstants.{MOST_PAIRS}

-- the entry of the first change stands before that of the second: it is of an earlier operation, or of
-- the same one in an earlier state
abbrev pub is_before : Change → Change → Bool
is_before c d = nat_lt c.target.operation.0 d.target.operation.0
    || ((c.target.operation.0 == d.target.operation.0) && nat_lt c.target.state.0 d.target.state.0)

-- the pair of the first change with the second, if its entry stands before that of the second
abbrev pub pair_with : Change → Change → List ChangePair
pair_with c d = if is_before c d then (record { first = c; second = d }) ∷ [] else []

abbrev pub pairs_with : List Change → Change → List ChangePair
pairs_with changes c = flat_map (pair_with c) changes

-- the changes of two entries at once: by the first change, by the second
abbrev pub change_pairs : TypeTable → List ChangePair
change_pairs t = flat_map (pairs_with (changes_of t)) (changes_of t)

-- the type with both changes
abbrev pub with_both : TypeTable → ChangePair → TypeTable
with_both t pair = with_change (with_change t pair.first) pair.second

-- the pair is told if it raises the number
abbrev pub told_if : NumberBounds → PairNumber → List PairNumber
told_if number told = if is_less number told.number then told ∷ [] else []

-- these pairs, in their order, each with the number of the type with both changes
pub record ArePairsWith (kind : NumberKind) (t : TypeTable) (pairs : List ChangePair)
    (told : List PairNumber) : Type 0 where
  pub listed : map (λ x. x.pair) told ≡ pairs
  pub numbers : All (λ x. HasNumberOf kind (with_both t x.pair) x.number) told

-- of the first MOST_PAIRS pairs those that raise the number, the greatest first, each with its number;
-- and whether there are more pairs than these
pub record ArePairNumbers (kind : NumberKind) (t : TypeTable) (number : NumberBounds)
    (told : PairNumbers) : Type 0 where
  pub all : List PairNumber
  pub numbers : ArePairsWith kind t (take MOST_PAIRS (change_pairs t)) all
  pub raising : told.raising.items
      ≡ greatest_first (λ x. x.number) GREATEST_RANK (flat_map (told_if number) all)
  pub cut : IsTrue told.is_cut ↔ (MOST_PAIRS < length (change_pairs t))
