use Rattle.std.proofs.Common.{◌≡◌, ◌<◌, ℕ}
use Rattle.std.specs.Prelude.{slice_index}
use Rattle.cn_table.specs.TypeTable.{transition}
use Rattle.cn_merging.proofs.firsts.agree.Given as goal

-- the operations so far do
abbrev pub invariant-loop-o : goal.invariant-loop-o
invariant-loop-o l = (k : ℕ) → k < l.o
    → ((transition l.table k l.p.0).0 ≡ (transition l.table k l.q.0).0)
    × (slice_index l.firsts (transition l.table k l.p.0).1 ≡ slice_index l.firsts (transition l.table k l.q.0).1)
