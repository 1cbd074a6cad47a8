use Rattle.std.proofs.Common.{◌≡◌, ◌++◌, ◌↔◌, ℕ, Bool, IsTrue, flat_map}
use Rattle.std.specs.List.{range_with_len}
use Rattle.cn_outcomes.specs.PairSets.{Has}
use Rattle.cn_reasons.specs.Sights.{sight_if}
use Rattle.cn_reasons.proofs.sight.push_sights.Given as goal

-- the sights with the states so far
abbrev pub invariant-loop-state : goal.invariant-loop-state
invariant-loop-state l = (test : ℕ → ℕ → Bool) → ((r q : ℕ) → IsTrue (test r q) ↔ Has l.set r q)
    → l.sights.items ≡ l.initial.sights.items ++ flat_map (sight_if test l.response) (range_with_len 0 l.state)
