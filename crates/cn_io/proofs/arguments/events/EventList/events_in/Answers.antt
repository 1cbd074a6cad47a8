use Rattle.std.proofs.Common.{sym}
use Rattle.cn_io.proofs.ArgumentLemmas.Events.{numbers_in}
use Rattle.cn_io.proofs.arguments.events.EventList.events_in.Goals as goal

pub returns-in-Numbers : goal.returns-in-Numbers
returns-in-Numbers c = rw c.in-Numbers.is (sym (numbers_in c.args.object.now c.in-Numbers.events.items))
