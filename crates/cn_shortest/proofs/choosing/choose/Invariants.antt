use Rattle.std.proofs.Common.{◌+◌, length}
use Rattle.cn_shortest.specs.Loads.{table_of}
use Rattle.cn_shortest.proofs.Choices.{NoneSoFar}
use Rattle.cn_shortest.proofs.choosing.choose.Given as goal

abbrev pub invariant-loop-which : goal.invariant-loop-which
invariant-loop-which l = NoneSoFar (table_of l.rows) (length l.rows + 1) l.fn.budget l.fn.roots (record { nodes = l.fn.load.nodes; sum = l.fn.load.sum }) l.which
