use Rattle.cn_choice.proofs.NumberLemmas.GreatestNumbers.{greatest_below}
use Rattle.cn_choice.proofs.laws.greatest_below_the_limit.Goals as goal

pub returns : goal.returns
returns g c t = greatest_below (g.P.Property.holds t)
