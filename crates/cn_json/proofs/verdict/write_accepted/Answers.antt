use Rattle.cn_json.specs.Verdict.{accepted_data}
use Rattle.cn_json.proofs.verdict.write_accepted.Goals as goal

pub returns : goal.returns
unfolding accepted_data
returns c = c.object.ensures
