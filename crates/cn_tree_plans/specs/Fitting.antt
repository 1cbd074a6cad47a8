-- A meeting that may be that of a node.
use Rattle.std.specs.Prelude.{ℕ, ◌≡◌, ◌<◌, List, length, map, slice_index}
use Rattle.cn_table.specs.TypeTable.{TypeTable}
use Rattle.cn_table.specs.declared.elements.Operation.{Operation}
use Rattle.cn_meetings.specs.Meeting.{IsSightOf}
use Rattle.cn_meetings.specs.Sights.{sight_of}
use Rattle.cn_tree_plans.specs.Plan.{NodeMeeting}

-- it has so many processes, with a state, a sight and operations of the type
abbrev pub FitsNode : TypeTable → ℕ → NodeMeeting → Type 0
FitsNode t size m = (m.start < length t.states) × (length m.operations ≡ size)
    × IsSightOf t (sight_of m.sight)
    × ((k : ℕ) → k < length m.operations → slice_index m.operations k < length t.operations)

abbrev pub AreKnown : ℕ → List Operation → Type 0
AreKnown limit operations = (k : ℕ) → k < length operations
    → slice_index (map (λ o. o.0) operations) k < limit
