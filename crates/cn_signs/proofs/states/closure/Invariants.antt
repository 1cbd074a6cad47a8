use Rattle.std.proofs.Common.{◌-◌, ◌⊎◌, ◌↔◌, ℕ, length}
use Rattle.std.specs.Prelude.{IsBitSet}
use Rattle.cn_outcomes.specs.Subsets.{Below}
use Rattle.cn_signs.specs.StateSets.{LedFrom, StepsTo}
use Rattle.cn_signs.proofs.states.closure.Given as goal

-- the first states are in the set, and operations lead from them to each of the set; the next one has where they lead at once, too
abbrev pub invariant-loop-set : goal.invariant-loop-set
invariant-loop-set l = record {
  has : (q : ℕ) → IsBitSet l.fn.from q → IsBitSet l.set q;
  led : (q : ℕ) → IsBitSet l.set q → LedFrom l.table l.many.0 l.further l.fn.from q;
  known : Below (length l.table.states) l.set;
  grown : (q : ℕ) → IsBitSet l.next q ↔ (IsBitSet l.set q ⊎ StepsTo l.table l.many.0 l.further (length l.further) l.set q);
  next_known : Below (length l.table.states) l.next;
}

abbrev pub decreases-loop-set : goal.decreases-loop-set
decreases-loop-set l = 65536 - l.set
