use Rattle.std.proofs.Common.{◌≡◌, take}
use Rattle.cn_stocks.specs.Words.{times}
use Rattle.cn_telling.proofs.cells.count_of.Given as goal

abbrev pub invariant-loop-other : goal.invariant-loop-other
invariant-loop-other l = l.count ≡ times l.fn.operation (take l.other-index l.operations)
