use Rattle.std.proofs.Common.{subst}
use Rattle.cn_meetings.specs.Meeting.{IsSightOf}
use Rattle.cn_meetings.specs.Sights.{sight_of}
use Rattle.cn_meetings.specs.declared.sight.Sight.{Sight}
use Rattle.cn_tree_text.proofs.promela.push_see.Goals as goal

pub push_answers-requires : goal.push_answers-requires
push_answers-requires c = (subst (λ (s : Sight). IsSightOf c.args.table.now (sight_of s)) c.in-Response.is c.requires).known
