use Rattle.std.proofs.Common.{refl, sym}
use Rattle.cn_further.proofs.sight.sight_of.Goals as goal

pub returns-in-None-further_of-clause-told : goal.returns-in-None-further_of-clause-told
returns-in-None-further_of-clause-told c = λ _. rw c.in-Done.is at c.requires c.in-Done.response.0 c.in-Done.answer.0 refl refl (sym c.in-None-further_of.ensures)
