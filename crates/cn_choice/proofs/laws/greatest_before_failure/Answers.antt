use Rattle.cn_choice.proofs.NumberLemmas.GreatestNumbers.{greatest_at, no_greatest}
use Rattle.cn_choice.proofs.laws.greatest_before_failure.Goals as goal

pub returns : goal.returns
returns g c = record {
  found = λ t. greatest_at (g.P.Property.holds t);
  none = λ t. no_greatest (g.P.Property.holds t);
}
