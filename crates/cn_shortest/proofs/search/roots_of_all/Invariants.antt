use Rattle.std.proofs.Common.{◌+◌}
use Rattle.cn_stocks.specs.Each.{EachAt}
use Rattle.cn_shortest.specs.Loads.{AreAllOf}
use Rattle.cn_shortest.specs.Looks.{allowed}
use Rattle.cn_shortest.proofs.Sound.{AreRootsOf}
use Rattle.cn_shortest.proofs.search.roots_of_all.Given as goal

abbrev pub invariant-loop-place : goal.invariant-loop-place
invariant-loop-place l = EachAt (λ i r. AreAllOf (i + 2) r × AreRootsOf l.fn.table (allowed l.fn.looks) (i + 2) r) l.place l.all.items
