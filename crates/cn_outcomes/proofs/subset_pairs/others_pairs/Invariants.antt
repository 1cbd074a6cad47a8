use Rattle.std.proofs.Common.{ℕ}
use Rattle.cn_outcomes.specs.PairSets.{Has}
use Rattle.cn_outcomes.proofs.Unions.{GathersFrom, IsOther, other_part}
use Rattle.cn_outcomes.proofs.subset_pairs.others_pairs.Given as goal

-- the pairs of the other movers so far, each as the last mover
abbrev pub invariant-loop-process : goal.invariant-loop-process
invariant-loop-process l =
    let s = l.setting in
    GathersFrom (other_part s.table.now s.choice.now s.team l.j l.fn.subset) (IsOther s.links l.fn.subset l.j) l.process-iterator (λ (x : ℕ × ℕ). Has l.set x.0 x.1)
