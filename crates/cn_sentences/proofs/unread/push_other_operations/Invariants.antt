use Rattle.std.proofs.Common.{◌≡◌, ◌++◌, codes, flat_map, string_bytes, take}
use Rattle.cn_sentences.specs.Unread.{listed_operation}
use Rattle.cn_sentences.proofs.unread.push_other_operations.Given as goal

-- the operations so far
abbrev pub invariant-loop-operation : goal.invariant-loop-operation
invariant-loop-operation l = string_bytes l.text ≡ string_bytes l.initial.text ++ flat_map (listed_operation l.table (codes ", ")) (take l.operation-index l.operations)
