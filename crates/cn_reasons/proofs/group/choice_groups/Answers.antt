use Rattle.cn_reasons.proofs.GroupLemmas.{choice_known, choice_within}
use Rattle.cn_reasons.proofs.group.choice_groups.Goals as goal

pub returns-clause-known : goal.returns-clause-known
returns-clause-known c = choice_known c.args.table.now c.args.choice.now c.groups_of.result c.requires c.groups_of.ensures

pub returns-clause-within : goal.returns-clause-within
returns-clause-within c = choice_within c.args.choice.now c.groups_of.result c.groups_of.ensures
