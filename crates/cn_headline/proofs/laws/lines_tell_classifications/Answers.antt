use Rattle.cn_headline.proofs.Classifications as numbers
use Rattle.cn_headline.proofs.laws.lines_tell_classifications.Goals as goal

pub returns-clause-number : goal.returns-clause-number
returns-clause-number c = numbers.number_line

pub returns-clause-both : goal.returns-clause-both
returns-clause-both c = numbers.both_line
