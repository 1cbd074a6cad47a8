use Rattle.cn_finding.proofs.laws.number_of_finding.Goals as goal

pub returns : goal.returns
returns c t limit number f found is = c.greatest_is_unique.ensures t limit number f.number is found.number
