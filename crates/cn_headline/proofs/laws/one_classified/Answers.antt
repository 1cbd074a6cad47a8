use Rattle.cn_headline.proofs.OneOutput as output
use Rattle.cn_headline.proofs.laws.one_classified.Goals as goal

pub returns-clause-one : goal.returns-clause-one
returns-clause-one c = output.one_classified c.greatest_is_unique.ensures

pub returns-clause-as_found : goal.returns-clause-as_found
returns-clause-as_found c = output.classified_as_found c.number_of_finding.ensures
