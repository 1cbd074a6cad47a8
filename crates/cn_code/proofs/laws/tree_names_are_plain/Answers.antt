use Rattle.std.proofs.Common.{subst}
use Rattle.std.specs.Prelude.{IsTrue}
use Rattle.std.specs.List.{list_all}
use Rattle.cn_table.specs.Names.{is_name}
use Rattle.cn_table.specs.TypeTable.{TypeTable}
use Rattle.cn_code.specs.Frame.{names_in}
use Rattle.cn_code.proofs.laws.tree_names_are_plain.Goals as goal

pub returns : goal.returns
returns c = subst (λ (t : TypeTable). IsTrue (list_all is_name (names_in t))) c.table.ensures c.names_of_tables_are_plain.ensures
