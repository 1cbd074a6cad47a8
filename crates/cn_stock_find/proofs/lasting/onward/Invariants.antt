use Rattle.std.proofs.Common.{◌≡◌, ◌-◌, ◌⊎◌, ◌↔◌, ℕ, length}
use Rattle.std.specs.Prelude.{IsBitSet}
use Rattle.cn_outcomes.specs.Subsets.{Below}
use Rattle.cn_table.specs.TypeTable.{transition}
use Rattle.cn_stocks.specs.Repeats.{Onward}
use Rattle.cn_stock_find.proofs.lasting.onward.Given as goal

-- all of these states are in the set, and the operation leads to each of the set; the grown set has where it leads next, too
abbrev pub invariant-loop-set : goal.invariant-loop-set
invariant-loop-set l = record {
  has : (q : ℕ) → IsBitSet l.fn.from q → IsBitSet l.set q;
  led : (q : ℕ) → IsBitSet l.set q → Onward l.table l.many.0 (IsBitSet l.fn.from) q;
  known : Below (length l.table.states) l.set;
  next : (q : ℕ) → IsBitSet l.grown q ↔ (IsBitSet l.set q ⊎ ((found : ℕ) × IsBitSet l.set found × ((transition l.table l.many.0 found).1 ≡ q)));
  grown_known : Below (length l.table.states) l.grown;
}

abbrev pub decreases-loop-set : goal.decreases-loop-set
decreases-loop-set l = 65536 - l.set
