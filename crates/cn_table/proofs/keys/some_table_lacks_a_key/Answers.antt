use Rattle.std.proofs.Common.{◌∙◌}
use Rattle.cn_table.specs.Faults.{lacks_a_key, operation_keys}
use Rattle.cn_table.proofs.KeyLemmas.{some_table-view}
use Rattle.cn_table.proofs.keys.some_table_lacks_a_key.Goals as goal

pub returns : goal.returns
returns c = c.some_value_lacks_a_key.ensures ∙ some_table-view (lacks_a_key operation_keys) c.args.values.now
