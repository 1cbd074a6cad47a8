use Rattle.std.proofs.Common.{sym}
use Rattle.cn_code.proofs.tree.seats.looks.Goals as goal

pub returns : goal.returns
returns c = sym (c.looks.ensures c.args.seat.process)
