use Rattle.std.proofs.Common.{length}
use Rattle.std.specs.Prelude.{IsBitSet}
use Rattle.cn_outcomes.specs.Subsets.{Below}
use Rattle.cn_outcomes.specs.Twins.{IsMover}
use Rattle.cn_outcomes.proofs.Unions.{GathersFrom, row_part}
use Rattle.cn_outcomes.proofs.subset_rows.row.Given as goal

-- the states after the movers so far, each as the last mover
abbrev pub invariant-loop-process : goal.invariant-loop-process
invariant-loop-process l =
    let s = l.setting in
    GathersFrom (row_part s.table.now s.choice.now s.team l.fn.subset) (IsMover s.links l.fn.subset) l.process-iterator (IsBitSet l.set)
    × Below (length s.table.now.states) l.set
