-- The numbers of a type with each of its changes.
use Rattle.std.specs.Prelude.{◌≡◌, List, [], ◌∷◌, map, All, Option, Some, None, if◌then◌else◌}
use Rattle.std.specs.List.{list_all}
use Rattle.cn_table.specs.TypeTable.{TypeTable}
use Rattle.cn_unread_number.specs.declared.bounds.NumberBounds.{NumberBounds}
use Rattle.cn_changes.specs.Changes.{changes_to, targets_of, with_change}
use Rattle.cn_changes.specs.Kinds.{HasNumberOf}
use Rattle.cn_changes.specs.Less.{same_bounds}
use Rattle.cn_changes.specs.declared.change.Change.{Change}
use Rattle.cn_changes.specs.declared.kind.NumberKind.{NumberKind}
use Rattle.cn_changes.specs.declared.numbers.ChangeNumber.{ChangeNumber}
use Rattle.cn_changes.specs.declared.numbers.NextNumbers.{NextNumbers}

-- the number is that of the type with the change
abbrev pub IsChangeNumber : NumberKind → TypeTable → ChangeNumber → Type 0
IsChangeNumber kind t told = HasNumberOf kind (with_change t told.change) told.number

-- these changes, in their order, each with its number
pub record AreNumbersOf (kind : NumberKind) (t : TypeTable) (changes : List Change)
    (told : List ChangeNumber) : Type 0 where
  pub listed : map (λ r. r.change) told ≡ changes
  pub numbers : All (IsChangeNumber kind t) told

-- the changes of the entry to the next state, each with its number
abbrev pub AreNextNumbers : NumberKind → TypeTable → NextNumbers → Type 0
AreNextNumbers kind t told = AreNumbersOf kind t (changes_to t told.target) told.numbers.items

-- every entry of the type with every next state, each once, in their order, with the numbers of its
-- changes
pub record AreAllNumbers (kind : NumberKind) (t : TypeTable) (told : List NextNumbers)
    : Type 0 where
  pub listed : map (λ x. x.target) told ≡ targets_of t
  pub numbers : All (AreNextNumbers kind t) told

-- the number that is the same with each of the responses, if there is one
abbrev pub agreed : List ChangeNumber → Option NumberBounds
agreed [] = None
agreed (r ∷ rs) = if list_all (λ s. same_bounds r.number s.number) rs then Some r.number else None
