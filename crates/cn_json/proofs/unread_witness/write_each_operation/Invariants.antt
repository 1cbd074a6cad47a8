use Rattle.std.proofs.Common.{◌≡◌, ◌++◌, drop}
use Rattle.cn_json.specs.Tokens.{list_rest}
use Rattle.cn_json.specs.UnreadWitness.{operation_number_data}
use Rattle.cn_json.proofs.unread_witness.write_each_operation.Given as goal

-- the operations that are left make up the rest of the array
abbrev pub invariant-loop-operation : goal.invariant-loop-operation
invariant-loop-operation l =
    let name = operation_number_data l.table in
    l.out ++ list_rest name (drop l.operation-index l.operations) ≡ l.initial.out ++ list_rest name l.operations
