use Rattle.std.proofs.Common.{◌≡◌, ◌++◌, replicate}
use Rattle.cn_shortest.proofs.building.add_size.Given as goal

abbrev pub invariant-loop-team : goal.invariant-loop-team
invariant-loop-team l = l.list.items ≡ l.fn.list.items ++ replicate l._team l.fn.size
