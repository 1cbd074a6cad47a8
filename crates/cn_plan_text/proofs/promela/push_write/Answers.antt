use Rattle.std.proofs.Common.{rules}
use Rattle.cn_plan_text.proofs.promela.push_write.Goals as goal

pub returns : goal.returns
returns c = rw (← c.name-team.ensures) (search rules)
