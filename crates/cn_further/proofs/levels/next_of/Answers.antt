use Rattle.std.proofs.Common.{get_or, sym}
use Rattle.cn_further.proofs.Kept.{next_known}
use Rattle.cn_further.proofs.levels.next_of.Goals as goal

pub moved-requires-clause-operation : goal.moved-requires-clause-operation
moved-requires-clause-operation c =
    next_known c.args.table.now c.args.follow_ups.now c.requires.known.further (get_or c.args.operations.now c.args.process 0) (c.requires.known.own c.args.process 0 c.requires.process) _ _ c.in-Some.operation.0 (sym c.in-Some.ensures)
