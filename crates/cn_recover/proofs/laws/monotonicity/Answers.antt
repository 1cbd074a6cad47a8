use Rattle.cn_recover.proofs.Recordings.{recording_below}
use Rattle.cn_recover.proofs.laws.monotonicity.Goals as goal

pub returns : goal.returns
returns c = recording_below
