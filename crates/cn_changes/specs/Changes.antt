-- Changes of a type: other entries in place of those of its table.
use Rattle.std.specs.Prelude.{ℕ, ◌<◌, ◌==◌, ◌&&◌, not, Bool, List, [], ◌∷◌, length, flat_map}
use Rattle.std.specs.Prelude.{if◌then◌else◌}
use Rattle.std.specs.List.{range_with_len}
use Rattle.cn_table.specs.OtherEntry.{IsEntry, with_entry}
use Rattle.cn_table.specs.TypeTable.{TypeTable, transition}
use Rattle.cn_changes.specs.declared.change.Change.{Change}
use Rattle.cn_changes.specs.declared.targets.Target.{Target}

-- an entry, by its operation and its state, and a next state for it
abbrev pub target : ℕ → ℕ → ℕ → Target
target operation state next = record {
  operation = record { 0 = operation };
  state = record { 0 = state };
  next = record { 0 = next };
}

-- the numbers are those of an operation and of states of the type
pub record IsTarget (t : TypeTable) (x : Target) : Type 0 where
  pub known_operation : x.operation.0 < length t.operations
  pub known_state : x.state.0 < length t.states
  pub known_next : x.next.0 < length t.states

-- each next state for an entry; for each entry of an operation; for each entry of the type
abbrev pub targets_in : TypeTable → ℕ → ℕ → List Target
targets_in t o q = flat_map (λ next. target o q next ∷ []) (range_with_len 0 (length t.states))

abbrev pub targets_of_operation : TypeTable → ℕ → List Target
targets_of_operation t o = flat_map (targets_in t o) (range_with_len 0 (length t.states))

abbrev pub targets_of : TypeTable → List Target
targets_of t = flat_map (targets_of_operation t) (range_with_len 0 (length t.operations))

-- the entry leads to the next state and gives this response
abbrev pub change : Target → ℕ → Change
change x response = record { target = x; response = record { 0 = response } }

-- the numbers of the change are those of an operation, of states and of a response of the type
abbrev pub IsChange : TypeTable → Change → Type 0
IsChange t c = IsEntry t c.target.operation.0 c.target.state.0 c.response.0 c.target.next.0

-- the type with the change
abbrev pub with_change : TypeTable → Change → TypeTable
with_change t c = with_entry t c.target.operation.0 c.target.state.0 c.response.0 c.target.next.0

-- the entry of the type is another one than with this response
abbrev pub is_other : TypeTable → Target → ℕ → Bool
is_other t x response = let own = transition t x.operation.0 x.state.0 in
    not ((own.0 == response) && (own.1 == x.next.0))

-- the change of the entry to the next state and this response, if the entry of the type is another one
abbrev pub change_if_other : TypeTable → Target → ℕ → List Change
change_if_other t x response = if is_other t x response then change x response ∷ [] else []

-- the changes of an entry to one next state, by response; and those of the type, by operation, by
-- state, by next state, by response
abbrev pub changes_to : TypeTable → Target → List Change
changes_to t x = flat_map (change_if_other t x) (range_with_len 0 (length t.responses))

abbrev pub changes_of : TypeTable → List Change
changes_of t = flat_map (changes_to t) (targets_of t)
