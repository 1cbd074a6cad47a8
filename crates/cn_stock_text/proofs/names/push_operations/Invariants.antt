use Rattle.std.proofs.Common.{◌≡◌, ◌++◌, string_bytes, take}
use Rattle.cn_stock_text.specs.Names.{operations_listed}
use Rattle.cn_stock_text.proofs.names.push_operations.Given as goal

-- the names so far
abbrev pub invariant-loop-operation : goal.invariant-loop-operation
invariant-loop-operation l = string_bytes l.text ≡ string_bytes l.initial.text ++ operations_listed l.table (take l.operation-index l.operations)
