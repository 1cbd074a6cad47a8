use Rattle.std.proofs.Common.{◌∙◌}
use Rattle.cn_table.specs.Faults.{has_other_key, operation_keys}
use Rattle.cn_table.proofs.KeyLemmas.{some_table-view}
use Rattle.cn_table.proofs.keys.some_table_has_other_key.Goals as goal

pub returns : goal.returns
returns c = c.some_value_has_other_key.ensures ∙ some_table-view (has_other_key operation_keys) c.args.values.now
