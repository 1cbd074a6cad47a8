use Rattle.std.proofs.Common.{◌∙◌, ap}
use Rattle.cn_hall.specs.declared.rule.View.{View}
use Rattle.cn_hall.proofs.Keeps.{pops}
use Rattle.cn_hall.proofs.transfers.take.Goals as goal

pub try_pop_as-requires-clause-rule : goal.try_pop_as-requires-clause-rule
try_pop_as-requires-clause-rule g c = pops _ _ (ap (λ (v : View). v.status) c.loop.invariant.view ∙ c.requires.live)
