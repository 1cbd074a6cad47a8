use Rattle.cn_headline.proofs.OneOutput as output
use Rattle.cn_headline.proofs.laws.one_found.Goals as goal

pub returns : goal.returns
returns c = output.one_found c.one_finding.ensures
