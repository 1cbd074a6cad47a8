use Rattle.cn_headline.proofs.OneOutput as output
use Rattle.cn_headline.proofs.laws.why_explains_what_is_found.Goals as goal

pub returns : goal.returns
returns c = output.text_of_found c.one_finding.ensures
