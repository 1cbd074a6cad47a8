use Rattle.std.proofs.Common.{◌≡◌, ◌++◌, drop}
use Rattle.cn_json.specs.Tokens.{list_rest}
use Rattle.cn_json.specs.TreePlans.{judged_data}
use Rattle.cn_json.proofs.tree_plan.write_each_judged.Given as goal

-- what is left makes up the array
abbrev pub invariant-loop-entry : goal.invariant-loop-entry
invariant-loop-entry l = l.out ++ list_rest (judged_data l.table l.sight) (drop l.entry-index l.judged) ≡ l.initial.out ++ list_rest (judged_data l.table l.sight) l.judged
