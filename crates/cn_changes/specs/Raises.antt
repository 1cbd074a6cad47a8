-- Changes that raise the number of a type.
use Rattle.std.specs.Prelude.{List, [], ◌∷◌, flat_map, Option, Some, None, if◌then◌else◌}
use Rattle.std.specs.Option.{option_map_or}
use Rattle.cn_table.specs.declared.elements.Response.{Response}
use Rattle.cn_unread_number.specs.declared.bounds.NumberBounds.{NumberBounds}
use Rattle.cn_changes.specs.Greatest.{greatest_first}
use Rattle.cn_changes.specs.Less.{is_less}
use Rattle.cn_changes.specs.Told.{agreed}
use Rattle.cn_changes.specs.declared.greatest.TheConstants.{GREATEST_RANK}
use Rattle.cn_changes.specs.declared.numbers.NextNumbers.{NextNumbers}
use Rattle.cn_changes.specs.declared.raises.Raise.{Raise}
use Rattle.cn_changes.specs.declared.targets.Target.{Target}

-- the number is raised to this one, with the response, or with any
abbrev pub raise_to : NumberBounds → Target → Option Response → NumberBounds → List Raise
raise_to number x response raised = if is_less number raised
    then (record { target = x; response = response; number = raised }) ∷ [] else []

-- the changes of an entry to one next state that raise the number: if all responses have one number, as
-- one, else each with its response
abbrev pub raises_in : NumberBounds → NextNumbers → List Raise
raises_in number told = option_map_or (λ raised. raise_to number told.target None raised)
    (agreed told.numbers.items)
    (flat_map (λ r. raise_to number told.target (Some r.change.response) r.number) told.numbers.items)

-- the changes that raise the number, by their entries and next states
abbrev pub raises_in_order : NumberBounds → List NextNumbers → List Raise
raises_in_order number told = flat_map (raises_in number) told

-- the same, by the number that they raise it to: the greatest first
abbrev pub raises_of : NumberBounds → List NextNumbers → List Raise
raises_of number told = greatest_first (λ r. r.number) GREATEST_RANK (raises_in_order number told)
