use Rattle.std.proofs.Common.{◌≡◌, ◌++◌, flat_map, string_bytes}
use Rattle.std.specs.List.{range_with_len}
use Rattle.cn_code.specs.Code.{row_code}
use Rattle.cn_code.proofs.judgements.push_rows.Given as goal

-- the responses so far
abbrev pub invariant-loop-response : goal.invariant-loop-response
invariant-loop-response l = string_bytes l.text ≡ string_bytes l.initial.text ++ flat_map (row_code l.language l.plan l.role) (range_with_len 0 l.response)
