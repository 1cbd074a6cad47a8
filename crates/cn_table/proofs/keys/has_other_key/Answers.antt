use Rattle.std.proofs.Common.{◌∙◌}
use Rattle.cn_table.proofs.KeyLemmas.{other_key}
use Rattle.cn_table.proofs.keys.has_other_key.Goals as goal

pub returns : goal.returns
returns c = c.some_entry_is_other.ensures ∙ other_key c.args.known.now c.args.table.now.entries
