use Rattle.std.proofs.Common.{append_assoc}
use Rattle.cn_json.proofs.log.event_text.Goals as goal

pub returns-in-Invoke : goal.returns-in-Invoke
returns-in-Invoke c = rw c.in-Invoke.is (simp append_assoc c.format.ensures.ok)
