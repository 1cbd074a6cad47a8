use Rattle.cn_shortest.proofs.Merging.{AllTo}
use Rattle.cn_shortest.proofs.roots.add_merged.Given as goal

abbrev pub invariant-loop-a : goal.invariant-loop-a
invariant-loop-a l = AllTo l.fn.n l.sizes l.fn.list.items l.list.items l.a
