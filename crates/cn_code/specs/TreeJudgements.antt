-- What the processes of a plan tree judge. Where they judge alike, they have one judgement.
use Rattle.std.specs.Prelude.{ℕ, ◌<◌, ◌==◌, ◌&&◌, Bool, true, false, List, [], ◌∷◌, ◌++◌, length}
use Rattle.std.specs.Prelude.{fold, if◌then◌else◌, slice_index_or}
use Rattle.std.specs.List.{list_all, list_any, position_or_len, range_with_len}
use Rattle.cn_meetings.specs.Sights.{reads, sight_of}
use Rattle.cn_meetings.specs.Witness.{Has}
use Rattle.cn_meetings.specs.declared.sight.Sight.{Sight}
use Rattle.cn_meetings.specs.declared.sight.Sight.TheVariants.{Nothing, Response, State}
use Rattle.cn_trees.specs.Steps.{looks_at}
use Rattle.cn_trees.specs.Tree.{comes_to, nodes_of, path_of, place_of, processes_of}
use Rattle.cn_tree_plans.specs.Plan.{TreePlan, no_meeting, tree_of}
use Rattle.cn_tree_plans.specs.Sights.{seen_count}
use Rattle.cn_code.specs.declared.tree.seats.Seat.{Seat}

-- the process comes to the node
pub record IsSeat (plan : TreePlan) (x : Seat) : Type 0 where
  pub known : x.node < nodes_of (tree_of plan)
  pub comes : Has (comes_to plan.teams x.node) x.process

-- process p at place i of its path
abbrev pub seat_of : TreePlan → ℕ → ℕ → Seat
seat_of plan p i = record { node = (place_of (tree_of plan) p i).node; process = p }

abbrev pub looks : TreePlan → Seat → Bool
looks plan x = looks_at (tree_of plan) x.node x.process

-- how the processes of node v look
abbrev pub sight_at : TreePlan → ℕ → Sight
sight_at plan v = (slice_index_or plan.meetings v no_meeting).sight

-- some process reads an object
abbrev pub some_read : TreePlan → Bool
some_read plan =
    list_any (λ v. reads (sight_at plan v)) (range_with_len 0 (nodes_of (tree_of plan)))

-- a process looks by an operation
abbrev pub is_response : Sight → Bool
is_response State = false
is_response Nothing = false
is_response (Response o) = true

-- some process looks by an operation
abbrev pub some_response : TreePlan → Bool
some_response plan =
    list_any (λ v. is_response (sight_at plan v)) (range_with_len 0 (nodes_of (tree_of plan)))

-- a process can see so much: each state where it reads, each response where it looks by an operation,
-- and where it does not look 0 alone
abbrev pub columns : TreePlan → Seat → ℕ
columns plan x = seen_count plan.table (sight_of (sight_at plan x.node))

-- the team that it judges to have come first, by a response and what it saw
abbrev pub team_first : TreePlan → Seat → ℕ → ℕ → ℕ
team_first plan x response saw = (tree_of plan).judge x.node x.process response saw

-- two processes judge alike by a response and what they saw
abbrev pub is_alike : TreePlan → Seat → Seat → ℕ → ℕ → Bool
is_alike plan x y response saw =
    team_first plan x response saw == team_first plan y response saw

abbrev pub are_alike : TreePlan → Seat → Seat → ℕ → Bool
are_alike plan x y response =
    list_all (is_alike plan x y response) (range_with_len 0 (columns plan x))

abbrev pub all_alike : TreePlan → Seat → Seat → Bool
all_alike plan x y =
    list_all (are_alike plan x y) (range_with_len 0 (length plan.table.responses))

-- they judge alike by each response and all that they can see, and can see as much
abbrev pub judge_alike : TreePlan → Seat → Seat → Bool
judge_alike plan x y = (columns plan x == columns plan y) && all_alike plan x y

-- the number of a judgement: that of the first of these who judges alike, or else the next number
abbrev pub number_among : TreePlan → List Seat → Seat → ℕ
number_among plan judges x = position_or_len (judge_alike plan x) judges

-- one more, if none of these judges alike
abbrev pub with_seat : TreePlan → List Seat → Seat → List Seat
with_seat plan judges x =
    if number_among plan judges x == length judges then judges ++ x ∷ [] else judges

abbrev pub with_place : TreePlan → ℕ → List Seat → ℕ → List Seat
with_place plan p judges i = with_seat plan judges (seat_of plan p i)

abbrev pub with_path : TreePlan → List Seat → ℕ → List Seat
with_path plan judges p =
    fold (with_place plan p) judges (range_with_len 0 (length (path_of (tree_of plan) p)))

-- the first at each judgement, in the order of the places
abbrev pub judges_of : TreePlan → List Seat
judges_of plan = fold (with_path plan) [] (range_with_len 0 (processes_of (tree_of plan)))
