use Rattle.std.proofs.Common.{◌≡◌, length}
use Rattle.std.specs.Prelude.{IsBitSet}
use Rattle.cn_table.specs.TypeTable.{transition}
use Rattle.cn_outcomes.specs.Subsets.{Below}
use Rattle.cn_outcomes.proofs.Unions.{GathersFrom}
use Rattle.cn_outcomes.proofs.subset_rows.image.Given as goal

-- the images of the states so far
abbrev pub invariant-loop-state : goal.invariant-loop-state
invariant-loop-state l =
    GathersFrom (λ i q. (transition l.table l.operation.0 i).1 ≡ q) (IsBitSet l.fn.from) l.state-iterator (IsBitSet l.set)
    × Below (length l.table.states) l.set
