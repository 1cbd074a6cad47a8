use Rattle.cn_recover.proofs.Numbers.{at_most}
use Rattle.cn_recover.proofs.laws.at_most_the_number.Goals as goal

pub returns : goal.returns
returns c = at_most
