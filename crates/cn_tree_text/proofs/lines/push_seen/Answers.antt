use Rattle.std.proofs.Common.{◌<◌, subst}
use Rattle.cn_meetings.specs.Sights.{sight_of}
use Rattle.cn_meetings.specs.declared.sight.Sight.{Sight}
use Rattle.cn_tree_plans.specs.Sights.{seen_count}
use Rattle.cn_tree_text.proofs.lines.push_seen.Goals as goal

pub state_name-requires : goal.state_name-requires
state_name-requires c = subst (λ (s : Sight). c.args.saw < seen_count c.args.table.now (sight_of s)) c.in-State.is c.requires

pub response_name-requires : goal.response_name-requires
response_name-requires c = subst (λ (s : Sight). c.args.saw < seen_count c.args.table.now (sight_of s)) c.in-Response.is c.requires
