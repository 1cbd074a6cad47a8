use Rattle.std.proofs.Common.{arith}
use Rattle.std.proofs.lemmas.Grind.{common_steps}
use Rattle.cn_table.proofs.NameLists.{repeat_next}
use Rattle.cn_table.proofs.names.have_repeat.Goals as goal

pub returns-then-has_namesake : goal.returns-then-has_namesake
returns-then-has_namesake g c =
    let step = repeat_next g.T.HasName.name_of c.args.things.now c.loop-i.i c.index-things-i.result (omega arith) in
    grind (arith, common_steps, step, c.loop-i.invariant, c.index-things-i.is)

pub loop-i-preserved : goal.loop-i-preserved
loop-i-preserved g c =
    let step = repeat_next g.T.HasName.name_of c.args.things.now c.loop-i.i c.index-things-i.result (omega arith) in
    grind (arith, common_steps, step, c.loop-i.invariant, c.index-things-i.is)
