use Rattle.std.proofs.Common.{inr, sym}
use Rattle.cn_io.proofs.streams.output.Output.report.Goals as goal

pub returns-in-Ok : goal.returns-in-Ok
returns-in-Ok g c = inr (c.in-Ok.report, sym c.in-Ok.is, c.take.ensures)

pub returns-in-Ok-2 : goal.returns-in-Ok-2
returns-in-Ok-2 g c = inr (c.in-Ok.report, sym c.in-Ok.is, c.write.ensures)
