use Rattle.std.proofs.Common.{ℕ, ◌<◌, ◌≡◌, ◌↔◌, ◌⊎◌}
use Rattle.cn_outcomes.specs.PairSets.{Has}
use Rattle.cn_tree_plans.proofs.shown.add_seen.Given as goal

-- the responses so far
abbrev pub invariant-loop-response : goal.invariant-loop-response
invariant-loop-response l = (r x : ℕ) → Has l.seen r x
    ↔ (Has l.initial.seen r x ⊎ ((r < l.response) × Has l.set r l.state × (x ≡ l.saw)))
