use Rattle.toml.specs.View.{view}
use Rattle.toml.specs.Data.{as_str}
use Rattle.cn_table.proofs.Lists.{front_first}
use Rattle.cn_table.proofs.draft.texts.Goals as goal

pub loop-value-init : goal.loop-value-init
loop-value-init c = rw c.new-out.ensures.items (front_first as_str view c.args.values.now)
