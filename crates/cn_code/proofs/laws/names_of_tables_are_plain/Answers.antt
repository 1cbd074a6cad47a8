use Rattle.std.proofs.Common.{◌∙◌, ◌++◌}
use Rattle.std.specs.List.{list_all}
use Rattle.std.proofs.lemmas.Bool.{and_from}
use Rattle.std.proofs.lemmas.List.Folds.{list_all-append}
use Rattle.cn_table.specs.Names.{is_name}
use Rattle.cn_table.specs.TypeTable.{operation_names}
use Rattle.cn_code.proofs.laws.names_of_tables_are_plain.Goals as goal

pub returns : goal.returns
returns c =
    let t = c.args.table.now in
    let known = c.states-known.ensures.table in
    and_from (is_name t.name) _ known.name
    (list_all-append is_name (t.states ++ operation_names t) t.responses
    ∙ and_from (list_all is_name (t.states ++ operation_names t)) _
    (list_all-append is_name t.states (operation_names t) ∙ and_from (list_all is_name t.states) _ known.states.named known.operations.named) known.responses.named)
