use Rattle.cn_crashes.proofs.StrongValidity.{strongly_valid}
use Rattle.cn_crashes.proofs.laws.validity_is_strong.Goals as goal

pub returns : goal.returns
returns g c = strongly_valid
