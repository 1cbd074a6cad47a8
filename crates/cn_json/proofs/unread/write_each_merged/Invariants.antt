use Rattle.std.proofs.Common.{◌≡◌, ◌++◌, drop}
use Rattle.cn_json.specs.Tokens.{list_rest}
use Rattle.cn_json.specs.Unread.{merged_data}
use Rattle.cn_json.proofs.unread.write_each_merged.Given as goal

-- the states that are left make up the rest of the array
abbrev pub invariant-loop-state : goal.invariant-loop-state
invariant-loop-state l = l.out ++ list_rest (merged_data l.given l.table) (drop l.state-index l.merged) ≡ l.initial.out ++ list_rest (merged_data l.given l.table) l.merged
