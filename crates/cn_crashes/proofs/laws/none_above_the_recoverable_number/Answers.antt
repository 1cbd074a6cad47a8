use Rattle.cn_crashes.proofs.RecoverableNumbers.{above, without}
use Rattle.cn_crashes.proofs.laws.none_above_the_recoverable_number.Goals as goal

pub returns : goal.returns
returns g c = record { found = above c.monotonicity.ensures; none = without c.monotonicity.ensures }
