use Rattle.cn_headline.proofs.OneOutput as output
use Rattle.cn_headline.proofs.laws.one_recoverably_classified.Goals as goal

pub returns : goal.returns
returns c = output.one_recoverably_classified c.greatest_is_unique.ensures c.greatest_is_unique-2.ensures
