use Rattle.std.proofs.Common.{ℕ, ◌<◌, ◌≡◌, ◌↔◌}
use Rattle.cn_meetings.specs.Meeting.{sees}
use Rattle.cn_meetings.specs.Sights.{sight_of}
use Rattle.cn_outcomes.specs.PairSets.{Has}
use Rattle.cn_tree_plans.proofs.shown.seen_by.Given as goal

-- the pairs with the states so far
abbrev pub invariant-loop-state : goal.invariant-loop-state
invariant-loop-state l = (r saw : ℕ) → Has l.seen r saw
    ↔ ((q : ℕ) × (q < l.state) × Has l.set r q × (sees l.table (sight_of l.sight) q ≡ saw))
