-- States that are one without reads.
use Rattle.std.specs.Prelude.{ℕ, List, [], ◌∷◌, length, take, Bool, ◌==◌, if◌then◌else◌, slice_index}
use Rattle.std.specs.List.{flat_map, list_any, range_with_len}
use Rattle.cn_unread_reasons.specs.declared.merged.MergedState.{MergedState}

-- whether a state before this one is of the same class
abbrev pub stands_before : List ℕ → ℕ → Bool
stands_before class_of q = list_any (λ c. c == slice_index class_of q) (take q class_of)

-- the state with its class, unless it is the first of it
abbrev pub merged_if : List ℕ → ℕ → List MergedState
merged_if class_of q = if stands_before class_of q
    then record { state = record { 0 = q }; class = record { 0 = slice_index class_of q } } ∷ []
    else []

-- the states that are not the first of their class, in order, each with its class
abbrev pub merged_states : List ℕ → List MergedState
merged_states class_of = flat_map (merged_if class_of) (range_with_len 0 (length class_of))
