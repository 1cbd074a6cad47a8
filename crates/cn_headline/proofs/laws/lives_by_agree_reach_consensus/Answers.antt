use Rattle.cn_headline.proofs.Lives.{reports_reach_consensus}
use Rattle.cn_headline.proofs.laws.lives_by_agree_reach_consensus.Goals as goal

pub returns : goal.returns
returns c = reports_reach_consensus c.lives_reach_consensus.ensures.run
