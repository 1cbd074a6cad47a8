use Rattle.cn_choice.proofs.NumberLemmas.GreatestNumbers as numbers
use Rattle.cn_choice.proofs.laws.greatest_is_unique.Goals as goal

pub returns : goal.returns
returns g c t = numbers.greatest_is_unique (g.P.Property.holds t)
