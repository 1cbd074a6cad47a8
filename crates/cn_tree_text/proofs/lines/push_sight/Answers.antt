use Rattle.std.proofs.Common.{subst}
use Rattle.cn_meetings.specs.Meeting.{IsSightOf}
use Rattle.cn_meetings.specs.Sights.{sight_of}
use Rattle.cn_meetings.specs.declared.sight.Sight.{Sight}
use Rattle.cn_tree_text.proofs.lines.push_sight.Goals as goal

pub operation_name-look-requires : goal.operation_name-look-requires
operation_name-look-requires c = (subst (λ (s : Sight). IsSightOf c.args.table.now (sight_of s)) c.in-Response.is c.requires).known
