use Rattle.cn_shortest.proofs.Merging.{MergedTo}
use Rattle.cn_shortest.proofs.roots.add_merged_with.Given as goal

abbrev pub invariant-loop-b : goal.invariant-loop-b
invariant-loop-b l = MergedTo l.fn.n l.sizes l.fn.list.items l.list.items l.fn.a l.b
