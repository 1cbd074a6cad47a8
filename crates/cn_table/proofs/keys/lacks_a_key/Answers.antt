use Rattle.std.proofs.Common.{◌∙◌}
use Rattle.cn_table.proofs.KeyLemmas.{lacking}
use Rattle.cn_table.proofs.keys.lacks_a_key.Goals as goal

pub returns : goal.returns
returns c = c.some_entry_is_missing.ensures ∙ lacking c.args.known.now c.args.table.now.entries
