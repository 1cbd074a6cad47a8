-- The meetings of three bits fit each table with a state and two operations.
use Rattle.std.proofs.Common.{ℕ, zero, suc, ◌≡◌, ◌+◌, ◌<◌, ◌≤◌, List, [], ◌∷◌, length, refl, arith, slice_index, slice_index_or}
use Rattle.cn_table.specs.TypeTable.{TypeTable}
use Rattle.cn_meetings.specs.Meeting.{IsSightOf}
use Rattle.cn_meetings.specs.Sights.{sight_of}
use Rattle.cn_meetings.specs.declared.sight.Sight.TheVariants.{Nothing}
use Rattle.cn_trees.specs.Tree.{Teams, members}
use Rattle.cn_trees.specs.Tree.Teams.{Alone, Last, Meet}
use Rattle.cn_tree_costs.specs.Nodes.{node_at}
use Rattle.cn_tree_plans.specs.Plan.{AreMeetings, NodeMeeting, no_meeting}

abbrev pub four : Teams
four = Meet (Alone (Alone Last)) (Meet (Alone (Alone Last)) Last)

abbrev pub bit : List ℕ → NodeMeeting
bit operations = record { start = 0; sight = Nothing; operations = operations }

abbrev pub bits : List NodeMeeting
bits = bit (0 ∷ 0 ∷ 1 ∷ 1 ∷ []) ∷ bit (0 ∷ 1 ∷ []) ∷ bit (0 ∷ 1 ∷ []) ∷ []

pub bits_fit : (t : TypeTable) → 1 ≤ length t.states → 2 ≤ length t.operations → AreMeetings t four bits
bits_fit t some two = record { count = refl; starts = starts; sights = sights; sizes = sizes; operations = operations }
  where
    starts : (v : ℕ) → v < 3 → (slice_index_or bits v no_meeting).start < length t.states
    starts zero lt = some
    starts (suc zero) lt = some
    starts (suc (suc zero)) lt = some
    starts (suc (suc (suc v))) lt = absurd (omega arith)

    sights : (v : ℕ) → v < 3 → IsSightOf t (sight_of (slice_index_or bits v no_meeting).sight)
    sights zero lt = tt
    sights (suc zero) lt = tt
    sights (suc (suc zero)) lt = tt
    sights (suc (suc (suc v))) lt = absurd (omega arith)

    sizes : (v : ℕ) → v < 3 → length (slice_index_or bits v no_meeting).operations ≡ members (node_at four v).teams
    sizes zero lt = refl
    sizes (suc zero) lt = refl
    sizes (suc (suc zero)) lt = refl
    sizes (suc (suc (suc v))) lt = absurd (omega arith)

    pair : (k : ℕ) → k < 2 → slice_index (0 ∷ 1 ∷ []) k < length t.operations
    pair zero lt = omega arith
    pair (suc zero) lt = two
    pair (suc (suc k)) lt = absurd (omega arith)

    operations : (v k : ℕ) → v < 3 → k < members (node_at four v).teams
        → slice_index (slice_index_or bits v no_meeting).operations k < length t.operations
    operations zero zero lv lk = omega arith
    operations zero (suc zero) lv lk = omega arith
    operations zero (suc (suc zero)) lv lk = two
    operations zero (suc (suc (suc zero))) lv lk = two
    operations zero (suc (suc (suc (suc k)))) lv lk = absurd (omega arith)
    operations (suc zero) k lv lk = pair k lk
    operations (suc (suc zero)) k lv lk = pair k lk
    operations (suc (suc (suc v))) k lv lk = absurd (omega arith)
