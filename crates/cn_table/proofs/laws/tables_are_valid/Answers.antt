use Rattle.std.proofs.Common.{◌≡◌, arith, length}
use Rattle.std.proofs.lemmas.List.{length-map}
use Rattle.cn_table.specs.TypeTable.{IsTypeTable, Row, operation_names}
use Rattle.cn_table.proofs.laws.tables_are_valid.Goals as goal

pub returns : goal.returns
returns c =
    let is : IsTypeTable c.args.table.now = rw (← c.table.view_is) c.table.invariant in
    let same : length (operation_names c.args.table.now) ≡ length c.args.table.now.operations = length-map c.args.table.now.operations (λ (row : Row). row.name) in
    record {
      table = is;
      states = (is.states.some, is.states.few);
      operations = (omega (arith, same, is.operations.some), omega (arith, same, is.operations.few));
      responses = (is.responses.some, is.responses.few);
    }
