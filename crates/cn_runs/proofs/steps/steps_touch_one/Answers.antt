use Rattle.cn_runs.proofs.OneAccess.{touches_one}
use Rattle.cn_runs.proofs.steps.steps_touch_one.Goals as goal

pub returns : goal.returns
returns g c = touches_one
